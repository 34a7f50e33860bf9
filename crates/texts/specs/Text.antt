-- The listing's text, in ASCII bytes: numbers, words and lines. Assumes nothing.
use Rattle.std.specs.Prelude.{cond, List, [], ◌∷◌, ◌++◌, ℕ, zero, suc, ◌+◌, ◌/◌, ◌%◌, ltb}
use Rattle.replay.specs.Replay.{StepAnswer, granted, waits, value, stored, added, left, refused}

-- the decimal digits of n, the most significant first, at most as many as the first number says
unfoldable pub decimal_of : ℕ → ℕ → List ℕ
decimal_of zero n = []
decimal_of (suc most) n = cond (ltb n 10) ((48 + n) ∷ []) (decimal_of most (n / 10) ++ ((48 + n % 10) ∷ []))

-- all of them: n has no more than 1 + n digits
abbrev pub decimal : ℕ → List ℕ
decimal n = decimal_of (suc n) n

-- a space
abbrev pub space : List ℕ
space = 32 ∷ []

-- the end of a line
abbrev pub newline : List ℕ
newline = 10 ∷ []

-- numbers, a space before each
unfoldable pub spaced : List ℕ → List ℕ
spaced [] = []
spaced (x ∷ xs) = (space ++ decimal x) ++ spaced xs

-- the word of the line after the steps: `end `
abbrev pub end_word : List ℕ
end_word = 101 ∷ 110 ∷ 100 ∷ 32 ∷ []

-- the word of a party's line: `party `
abbrev pub party_word : List ℕ
party_word = 112 ∷ 97 ∷ 114 ∷ 116 ∷ 121 ∷ 32 ∷ []

-- THE ANSWERS: a word for each, in ASCII, with the space where a number follows; then a row for each. `granted `
abbrev pub granted_word : List ℕ
granted_word = 103 ∷ 114 ∷ 97 ∷ 110 ∷ 116 ∷ 101 ∷ 100 ∷ 32 ∷ []

-- `waits`
abbrev pub waits_word : List ℕ
waits_word = 119 ∷ 97 ∷ 105 ∷ 116 ∷ 115 ∷ []

-- `value `
abbrev pub value_word : List ℕ
value_word = 118 ∷ 97 ∷ 108 ∷ 117 ∷ 101 ∷ 32 ∷ []

-- `stored`
abbrev pub stored_word : List ℕ
stored_word = 115 ∷ 116 ∷ 111 ∷ 114 ∷ 101 ∷ 100 ∷ []

-- `added`
abbrev pub added_word : List ℕ
added_word = 97 ∷ 100 ∷ 100 ∷ 101 ∷ 100 ∷ []

-- `left`
abbrev pub left_word : List ℕ
left_word = 108 ∷ 101 ∷ 102 ∷ 116 ∷ []

-- `refused `
abbrev pub refused_word : List ℕ
refused_word = 114 ∷ 101 ∷ 102 ∷ 117 ∷ 115 ∷ 101 ∷ 100 ∷ 32 ∷ []

-- the table of answers: the word, and behind it the cover, the value, the granted parties or the refusal
abbrev pub answer_text : StepAnswer → List ℕ
answer_text (granted cover) = granted_word ++ decimal cover
answer_text waits = waits_word
answer_text (value number) = value_word ++ decimal number
answer_text stored = stored_word
answer_text added = added_word
answer_text (left parties) = left_word ++ spaced parties
answer_text (refused number) = refused_word ++ decimal number
