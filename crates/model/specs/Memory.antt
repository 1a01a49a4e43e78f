-- What lies in lent memory after a call that may refuse: a refusal "changes no lent memory", and what lies past the needed part "is untouched in every case".
use Rattle.std.specs.Prelude.{ℕ, cond, List, ◌++◌, eqb, drop, replicate}

-- "Reading and writing fill the needed part": what was lent after a call with this refusal's number, 0 if there is none, that puts new numbers there
unfoldable pub filled_after : ℕ → ℕ → List ℕ → List ℕ → List ℕ
filled_after number needed new lent = cond (eqb number 0) (new ++ drop needed lent) lent

-- the first n numbers are 0, and what lies past them is as it was
abbrev pub zero_first : ℕ → List ℕ → List ℕ
zero_first n xs = replicate n 0 ++ drop n xs

-- "After an answered question the needed part of the desk is all zero." The workspace is document 01's desk.
abbrev pub cleared_after : ℕ → ℕ → List ℕ → List ℕ
cleared_after number needed workspace = filled_after number needed (replicate needed 0) workspace
