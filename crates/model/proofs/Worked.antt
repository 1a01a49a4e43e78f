-- The starred funds of "Funds worked by hand", all at once: the definitions are computed.
use mathlib.Core.Path.{◌≡◌, refl}
use mathlib.Core.Bool.{true}
use mathlib.Core.List.{flat_map, zip_with}
use Rattle.model.specs.Scale.{S, quotient}
use Rattle.model.specs.Sums.{sum, product, one_to, total, count, all, any}
use Rattle.model.specs.Plan.{nth, plan_of}
use Rattle.model.specs.Levels.{largest_level}
use Rattle.model.specs.History.{events, histories, event_weight, history_weight, next_surplus, surplus_path, at_least, at_most, is_claim, claims}
use Rattle.model.specs.Exact.{survives, keeps, weight_of, exact}
use Rattle.model.specs.MonthRule.{claim_sum, exact_month, month, kept, claimed_row, month_back, values, all_placed, one_fewer, rule_of, last_of, claims_of, opening_allowed, value}
use Rattle.model.specs.FirstClaim.{first_claim_in, some_claim, first_claim, first_claim_survival}
use Rattle.model.specs.Bounds.{bound}
use Rattle.model.specs.Refusal.{first, head_checks, length_check, tail_survivable, number_checks, plan_checks, plan_refusal}
use Rattle.model.specs.Funds.{starred, published, right}

pub starred_right : all right starred ≡ true
unfolding S largest_level quotient sum product one_to total count all any nth plan_of events histories event_weight history_weight next_surplus surplus_path at_least at_most is_claim claims survives keeps weight_of exact claim_sum exact_month month kept claimed_row month_back values all_placed one_fewer rule_of last_of claims_of opening_allowed value first_claim_in some_claim first_claim first_claim_survival bound first head_checks length_check tail_survivable number_checks plan_checks plan_refusal starred published right flat_map zip_with
starred_right = refl
