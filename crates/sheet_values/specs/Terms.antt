-- What the functions below the calls need of a sheet, all of which its checks have asked.
use Rattle.std.specs.Prelude.{◌≤◌, ◌≡◌, true, false, not}
use Rattle.model.specs.Limits.{max_months, max_sizes}
use Rattle.model.specs.Sums.{one_to, any}
use Rattle.doubles.specs.Doubles.{within}
use Rattle.sheet_values.specs.declared.RuleSheet.{RuleSheet}
use Rattle.sheet_values.specs.Rules.{chance}

pub record MakesPlan (s : RuleSheet) : Type 0 where
  pub months_fit : s.months ≤ max_months
  pub sizes_fit : s.sizes ≤ max_sizes
  pub chances_within : any (λ i. not (within (chance s.rule i))) (one_to s.months) ≡ false
  pub alpha_within : within s.alpha ≡ true
