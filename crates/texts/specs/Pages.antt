-- Bytes put into a text as far as they fit. Assumes nothing.
use Rattle.std.specs.Prelude.{◌≡◌, cond, List, [], ◌∷◌, ℕ, suc, ltb, length, set}

-- a text, and the place of its next byte
pub record Page : Type 0 where
  pub text : List ℕ
  pub at : ℕ

-- of these
abbrev pub page_of : List ℕ → ℕ → Page
page_of text at = record { text = text; at = at }

-- a byte is put at its place, and a text that is full stays as it is
abbrev pub put_byte : ℕ → Page → Page
put_byte x p = cond (ltb p.at (length p.text)) (page_of (set p.text p.at x) (suc p.at)) p

-- bytes, one behind the other
unfoldable pub put : List ℕ → Page → Page
put [] p = p
put (x ∷ xs) p = put xs (put_byte x p)

-- bytes put into a text from a place on: the text after it, and the place behind them
abbrev pub Puts : ℕ → List ℕ → List ℕ → List ℕ → ℕ → Type 0
Puts at bytes text text' r = page_of text' r ≡ put bytes (page_of text at)
