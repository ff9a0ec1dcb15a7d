-- How a line about an entry is spelt. Assumes nothing.
use Rattle.std.specs.Prelude.{ℕ, min, List, [], ◌∷◌, ◌++◌, take, codes, decimal}
use Rattle.costs.specs.declared.entry.Entry.{Entry}

-- numbers, each behind a blank
abbrev pub words : List ℕ → List ℕ
words [] = []
words (n ∷ ns) = (codes " " ++ decimal n) ++ words ns

-- a word, numbers, the amount, and the counts of so many outputs, eight at most; then the line ends
abbrev pub entry_line : {M : Type 0} → (M → List ℕ) → List ℕ → List ℕ → Entry M → ℕ → List ℕ
entry_line spelt word numbers e outputs =
    word ++ (words numbers ++ (codes " " ++ (spelt e.amount ++ (words (take (min outputs 8) e.counts.at) ++ codes "\n"))))
