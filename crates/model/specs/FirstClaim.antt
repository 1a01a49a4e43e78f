-- Source document 000, Theorem 2.1: survival by the month t of the first claim and its size x. The theorem's numbers p_t, q_i and f(x) are
-- P_t / S, (S − P_t) / S and F_x / S, and its probabilities over n months are multiplied by S^(2n), so that every term is whole. Document 02: it "is for
-- c = 1 alone", as the levels u + t of the theorem say.
use Rattle.std.specs.Prelude.{ℕ, zero, suc, ◌+◌, ◌*◌, ◌-◌, ◌^◌, List, length, drop}
use Rattle.model.specs.Scale.{S}
use Rattle.model.specs.Sums.{sum, product}
use Rattle.model.specs.Plan.{Plan, nth, horizon}

-- p_t Π_{i=1}^{t−1} q_i, multiplied by S^t
unfoldable pub first_claim_in : List ℕ → ℕ → ℕ
first_claim_in chances t = nth chances t * product (t - 1) (λ i. S - nth chances i)

-- Σ_{t=1}^n p_t Π q_i, multiplied by S^(2n): a claim comes in the n months
unfoldable pub some_claim : List ℕ → ℕ
some_claim chances = sum (length chances) (λ t. first_claim_in chances t * S ^ (2 * length chances - t))

-- Theorem 2.1 as printed: the sum over t = 1 to n of p_t Π q_i Σ_{x=1}^{u+t−1} f(x) P_{u+t−x}(T^{(t+1,n)} > n − t), and the last term,
-- 1 − Σ p_t Π q_i. The chances go on from the month of the claim. Each claim takes a month, so as many turns as months suffice.
unfoldable pub first_claim : ℕ → List ℕ → List ℕ → ℕ → ℕ
first_claim zero severity chances u = 1
first_claim (suc turns) severity chances u =
    sum (length chances)
    (λ t.
    first_claim_in chances t
    * sum (u + t - 1) (λ x. nth severity x * first_claim turns severity (drop t chances) (u + t - x))
    * S ^ (t - 1))
    + (S ^ (2 * length chances) - some_claim chances)

-- P_u(T > n) of a plan, multiplied by S^(2n)
unfoldable pub first_claim_survival : Plan → ℕ
first_claim_survival p = first_claim (horizon p) p.severity p.chances p.opening
