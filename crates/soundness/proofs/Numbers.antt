-- What get, put and add answer, by what their checks refuse with. Assumes nothing.
use mathlib.Core.Path.{◌≡◌, refl, ap}
use mathlib.Core.List.{List}
use mathlib.Core.Bool.{true}
use mathlib.Core.Option.{Option, none, some}
use Prim.Native.Nat.{ℕ}
use Rattle.lists.specs.Answer.{refused}
use Rattle.lists.proofs.Bools.{not_both}
use Rattle.desk.specs.declared.Desk.{Desk}
use Rattle.desk.specs.Steps.{get_unless, put_unless}

-- THE ANSWER of a get, and of a put or add, is a refusal with k just where its checks refuse with k
pub get_turned_away : (o : Option ℕ) (d : Desk) (x k : ℕ) (scratch : List ℕ)
    → ((get_unless o d x scratch).answer ≡ refused k → o ≡ some k) × (o ≡ some k → (get_unless o d x scratch).answer ≡ refused k)
get_turned_away (some j) d x k scratch = (λ e. let z : j ≡ k = cc in ap some z, λ e. let z : j ≡ k = cc in ap refused z)
get_turned_away none d x k scratch = (λ e. not_both true refl cc, λ e. not_both true refl cc)

pub put_turned_away : (o : Option ℕ) (d : Desk) (node x k : ℕ) (values scratch : List ℕ)
    → ((put_unless o d node x values scratch).answer ≡ refused k → o ≡ some k) × (o ≡ some k → (put_unless o d node x values scratch).answer ≡ refused k)
put_turned_away (some j) d node x k values scratch = (λ e. let z : j ≡ k = cc in ap some z, λ e. let z : j ≡ k = cc in ap refused z)
put_turned_away none d node x k values scratch = (λ e. not_both true refl cc, λ e. not_both true refl cc)
