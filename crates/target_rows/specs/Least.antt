-- The least number that passes a test.
use Rattle.std.specs.Prelude.{ℕ, zero, suc, Bool, cond}

-- the least of the numbers below n that passes a test, n where none does
unfoldable pub least : ℕ → (ℕ → Bool) → ℕ
least zero test = 0
least (suc n) test = cond (test 0) 0 (suc (least n (λ v. test (suc v))))
