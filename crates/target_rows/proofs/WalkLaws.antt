-- Laws of the walk back through the months: the row in memory is survival's, month by month, and where it lies below the target it stays there.
use Prim.Native.Nat.{ℕ, zero, suc, ◌+◌, ◌*◌, ◌-◌, ◌≤◌, zero-le, ◌<◌}
use mathlib.Core.Path.{◌≡◌, refl, sym, ◌∙◌, ap}
use mathlib.Core.Logic.{⊎_elim}
use mathlib.Core.Bool.{cond}
use mathlib.Core.List.{List, ◌∷◌}
use native.Mathlib.Nat.{le_refl, mul-suc, one-mul, zero-mul}
use native.Mathlib.Omega.{arith}
use borrow.Author.Tests.{lt-ltb, le-ltb}
use lib.Dec.{leb, ltb}
use lib.ListN.{length, get_or, drop, length-drop, replicate, get_or-replicate, length-replicate}
use lib.Seq.{drop-cons, drop-length}
use Rattle.model.specs.declared.Rounding.{Rounding}
use Rattle.model.specs.declared.Rounding.TheVariants.{Down}
use Rattle.model.specs.declared.Question.TheVariants.{Survive}
use Rattle.model.specs.Scale.{S}
use Rattle.model.specs.Sums.{total}
use Rattle.model.specs.Levels.{largest_level}
use Rattle.model.specs.MonthRule.{month, month_back, kept, values, rule_of, last_of, claims_of, all_placed}
use Rattle.model.proofs.LevelLaws.{level_start, level_later, reachable}
use Rattle.model.proofs.SumLaws.{below_or_not}
use Rattle.model.proofs.Values.{values_never_above, claims_alike}
use Rattle.claims.specs.Values.{from_top, Parts}
use Rattle.month_rows.specs.declared.rows.Shape.{Shape}
use Rattle.month_rows.specs.Rows.{at}
use Rattle.month_rule.specs.Months.{rule_by, TakenBack}
use Rattle.month_rows.specs.Shapes.{row_with, values_in, allowed_places, RowsIn, TopIn}
use Rattle.month_rule.proofs.HalfLaws.{parts_replicate}
use Rattle.month_rule.proofs.AllMonths.{taken_back_none, taken_back_more}
use Rattle.questions.specs.Needs.{shape_of}
use Rattle.questions.specs.Survival.{survival_row}
use Rattle.questions.proofs.SurvivalLaws.{back_is}
use Rattle.target_rows.specs.Least.{least}
use Rattle.target_rows.specs.Rows.{Below, Reaches, GivenUp, least_found}
use Rattle.target_rows.specs.declared.rows.Found.{Found}
use Rattle.target_rows.proofs.LeastLaws.{least_agree, least_below}

-- a last row of S
last_placed :
    (width income top : ℕ) → top < width → (k : ℕ) → k < (shape_of Survive width income).rows → (s : ℕ) → values_in (shape_of Survive width income) top (replicate width S) k s ≡ all_placed k s
unfolding shape_of all_placed
last_placed width income top l zero m s = rw zero-mul (get_or-replicate width (top - s) S 0 (omega arith))
last_placed width income top l (suc k) m s = absurd (omega arith)

-- the row in memory, from there through the months, is that of survival
pub back_of :
    (round : Rounding) (income : ℕ) (F Ps : List ℕ) (width level : ℕ) (shape : Shape) (last row : List ℕ) → shape ≡ shape_of Survive width income → last ≡ replicate width S →
    largest_level income level (length Ps) < width → TakenBack round F shape level Ps last row → (s : ℕ) → s ≤ level → from_top level row s ≡ survival_row round income F Ps s
back_of round income F Ps width level shape last row es el inside back s l =
    back_is round income F Ps width level shape last row es inside (rw (es, el) (last_placed width income (largest_level income level (length Ps)) inside)) back s l

-- the one row of survive in memory
pub rows_in : (shape : Shape) (width income : ℕ) (row : List ℕ) → shape ≡ shape_of Survive width income → 0 < income → length row ≡ width → Parts row → RowsIn shape row
unfolding shape_of
rows_in shape width income row e earns size parts = rw e (record { some = omega arith; income_some = earns; size = size ∙ sym (one-mul width); parts = parts })

pub top_in : (shape : Shape) (width income top : ℕ) → shape ≡ shape_of Survive width income → income ≤ top → top < width → TopIn shape top
unfolding shape_of
top_in shape width income top e income_below inside = rw e (record { income_below = income_below; inside = inside })

pub width_of :
    (shape : Shape) (width income opening months : ℕ) → shape ≡ shape_of Survive width income → largest_level income opening months < width →
    largest_level shape.income opening months < shape.width
unfolding shape_of
width_of shape width income opening months e inside = rw e inside

-- one month more, from the level that it leads to
back_more :
    (round : Rounding) (F : List ℕ) (shape : Shape) (top level P : ℕ) (Ps before row row' : List ℕ) → top ≡ level + shape.income →
    TakenBack round F shape top Ps before row →
    ((k : ℕ) → k < shape.rows → (s : ℕ) → s + shape.income ≤ top →
    values_in shape (top - shape.income) row' k s ≡ month_back (month round shape.income F) (rule_by shape) P (values_in shape top row) k s) →
    ((k : ℕ) → k < shape.rows → (i : ℕ) → top < i + shape.income → i < shape.width →
    at (row_with shape row' k) i ≡ kept (allowed_places shape top) (at (row_with shape row k)) i) →
    TakenBack round F shape level (P ∷ Ps) before row'
back_more round F shape top level P Ps before row row' e h back beyond =
    taken_back_more round F shape level P Ps before row row' (rw e at h) (rw e at back) (rw e at beyond)

-- the levels of a month and of the one before it
pub month_before : (income opening month : ℕ) → 0 < month → largest_level income opening month ≡ largest_level income opening (month - 1) + income
unfolding largest_level
month_before income opening month above =
    let some : month ≡ suc (month - 1) = omega arith in
    omega (arith, ap (λ (n : ℕ). income * n) some, mul-suc income (month - 1))

-- Some level of the row of the months after `month`, and of every later row, reaches the target.
abbrev pub ReachesFrom : ℕ → List ℕ → ℕ → List ℕ → ℕ → ℕ → Type 0
ReachesFrom income F opening chances target month =
    (t : ℕ) → month ≤ t → t ≤ length chances → Reaches target (largest_level income opening t) (survival_row Down income F (drop t chances))

-- The walk before a month: the row is that of the months after it, and has not been given up.
pub record Walking (income : ℕ) (F : List ℕ) (opening : ℕ) (chances : List ℕ) (target width month : ℕ) (row : List ℕ) : Type 0 where
  pub inside : month ≤ length chances
  pub size : length row ≡ width
  pub parts : Parts row
  pub back : TakenBack Down F (shape_of Survive width income) (largest_level income opening month) (drop month chances) (replicate width S) row
  pub reached : ReachesFrom income F opening chances target month

module _ (income : ℕ) (F : List ℕ) (opening : ℕ) (chances : List ℕ) (target width : ℕ) (fits : largest_level income opening (length chances) < width) where
  -- after the last month every value is S
  pub walking_start :
      target ≤ S → (row : List ℕ) → row ≡ replicate width S → Walking income F opening chances target width (length chances) row
  unfolding values last_of
  walking_start l row e =
      record {
        inside = le_refl (length chances);
        size = rw e (length-replicate width S);
        parts = rw e (parts_replicate width S (le_refl S));
        back =
            rw (drop-length chances, e) (taken_back_none Down F (shape_of Survive width income) (largest_level income opening (length chances)) (replicate width S));
        reached =
            λ t a b.
            let last : t ≡ length chances = omega arith in
            record { level = 0; inside = zero-le; enough = rw (last, drop-length chances) l };
      }

  -- the levels of a month lie within the row
  pub month_inside : (month : ℕ) → month ≤ length chances → largest_level income opening month < width
  month_inside month l = omega (arith, level_later income opening month (length chances) l)

  remaining : (month : ℕ) → month ≤ length chances → largest_level income (largest_level income opening month) (length (drop month chances)) < width
  remaining month l =
      omega (arith, fits, reachable income opening (largest_level income opening month) month (length chances) (length (drop month chances)) (le_refl (largest_level income opening month)) (omega (arith, length-drop month chances)))

  -- the row of the months after `month`, level by level
  pub row_is :
      (month : ℕ) → month ≤ length chances → (row : List ℕ) →
      TakenBack Down F (shape_of Survive width income) (largest_level income opening month) (drop month chances) (replicate width S) row →
      (s : ℕ) → s ≤ largest_level income opening month → from_top (largest_level income opening month) row s ≡ survival_row Down income F (drop month chances) s
  row_is month l row back s m =
      back_of Down income F (drop month chances) width (largest_level income opening month) (shape_of Survive width income) (replicate width S) row refl refl (remaining month l) back s m

  module _ (t : ℕ) (above : 0 < t) (row : List ℕ) (walking : Walking income F opening chances target width t row) (row' : List ℕ) where
    abbrev Walked : Type 0
    Walked = TakenBack Down F (shape_of Survive width income) (largest_level income opening (t - 1)) (drop (t - 1) chances) (replicate width S) row'

    -- the row that a month takes back
    pub walked :
        (shape : Shape) → shape ≡ shape_of Survive width income → (top : ℕ) → top ≡ largest_level income opening t →
        ((k : ℕ) → k < shape.rows → (s : ℕ) → s + shape.income ≤ top →
        values_in shape (top - shape.income) row' k s
        ≡ month_back (month Down shape.income F) (rule_by shape) (get_or chances (t - 1) 0) (values_in shape top row) k s) →
        ((k : ℕ) → k < shape.rows → (i : ℕ) → top < i + shape.income → i < shape.width →
        at (row_with shape row' k) i ≡ kept (allowed_places shape top) (at (row_with shape row k)) i) →
        Walked
    unfolding shape_of
    walked shape es top et back beyond =
        let next : suc (t - 1) ≡ t = omega arith in
        rw (drop-cons chances (t - 1) 0 (omega (arith, walking.inside)), next)
        (back_more Down F (shape_of Survive width income) (largest_level income opening t) (largest_level income opening (t - 1)) (get_or chances (t - 1) 0) (drop t chances)
        (replicate width S) row row' (month_before income opening t above) walking.back (rw (es, et) at back) (rw (es, et) at beyond))

    -- not given up: some place of it reaches the target
    pub walking_on :
        Walked → length row' ≡ length row → Parts row' → (place : ℕ) → place ≤ largest_level income opening (t - 1) → target ≤ get_or row' place 0 →
        Walking income F opening chances target width (t - 1) row'
    walking_on back same parts place l enough =
        record {
          inside = omega (arith, walking.inside);
          size = same ∙ walking.size;
          parts = parts;
          back = back;
          reached = λ r a b. ⊎_elim (λ m. walking.reached r (omega arith) b) (λ m. this r (omega arith)) (below_or_not (t - 1) r);
        }
      where
        top : ℕ
        top = largest_level income opening (t - 1)

        here : Reaches target top (survival_row Down income F (drop (t - 1) chances))
        here =
            let index : top - (top - place) ≡ place = omega arith in
            record {
              level = top - place;
              inside = omega arith;
              enough = rw (← row_is (t - 1) (omega (arith, walking.inside)) row' back (top - place) (omega arith), index) enough;
            }

        this : (r : ℕ) → r ≡ t - 1 → Reaches target (largest_level income opening r) (survival_row Down income F (drop r chances))
        this r e = rw e here

    -- given up: none does
    pub giving_up :
        Walked → ((i : ℕ) → i ≤ largest_level income opening (t - 1) → get_or row' i 0 < target) → GivenUp income F opening chances target t
    unfolding Below
    giving_up back below =
        record {
          reached = walking.reached;
          below = λ _ s l. rw (← row_is (t - 1) (omega (arith, walking.inside)) row' back s l) (below (largest_level income opening (t - 1) - s) (omega arith));
        }

-- the row as the caller knows it, by the length of what it lent
pub as_lent :
    (income : ℕ) (F : List ℕ) (opening : ℕ) (chances : List ℕ) (t width width' : ℕ) (row : List ℕ) → width ≡ width' →
    TakenBack Down F (shape_of Survive width income) (largest_level income opening t) (drop t chances) (replicate width S) row →
    TakenBack Down F (shape_of Survive width' income) (largest_level income opening t) (drop t chances) (replicate width' S) row
as_lent income F opening chances t width width' row e back = rw (← e) back

-- the walk to its end
module _ (income : ℕ) (F : List ℕ) (opening : ℕ) (chances : List ℕ) (target width t : ℕ) (row : List ℕ) (end : t ≡ 0) (walking : Walking income F opening chances target width t row) where
  pub walked_all : GivenUp income F opening chances target t
  walked_all = record { reached = walking.reached; below = λ l. absurd (omega arith) }

  pub walked_end : TakenBack Down F (shape_of Survive width income) (largest_level income opening (t - 1)) (drop (t - 1) chances) (replicate width S) row
  walked_end =
      let same : t - 1 ≡ t = omega arith in
      rw same walking.back

-- Where the work is given up no opening reaches the target: "no level reaches the target any more".
pub none_reached :
    (income : ℕ) (F : List ℕ) (opening : ℕ) (chances : List ℕ) (target t : ℕ) → total F ≤ S → Parts chances → 0 < target → 0 < t → GivenUp income F opening chances target t →
    Below target opening (survival_row Down income F chances)
unfolding Below claims_of
none_reached income F opening chances target t weights chances_fit above some given s l =
    omega (
      arith,
      values_never_above Down income F weights (rule_of Survive) (last_of Survive) chances chances_fit.each opening (target - 1) 0 (t - 1) zero-le
          (λ k r m. rw (claims_alike (month Down income F) (drop (t - 1) chances) k) (omega (arith, given.below some r m)))
          (claims_of Survive) s (rw (level_start income opening) l),
    )

-- The answer where no opening reaches the target …
pub found_none :
    (income : ℕ) (F : List ℕ) (opening : ℕ) (chances : List ℕ) (target v : ℕ) → v ≡ opening + 1 → Below target opening (survival_row Down income F chances) →
    ◌≡◌ {A = Found} (record { opening = v; lower = 0 }) (least_found income F opening chances target)
unfolding least_found
found_none income F opening chances target v e below =
    rw (e, least_below target opening (survival_row Down income F chances) below, lt-ltb opening (opening + 1) (omega arith))

-- … and where one does, which is all that the search needs of it.
module _ (income : ℕ) (F : List ℕ) (opening : ℕ) (chances : List ℕ) (target : ℕ) (r : Found) where
  pub found_some :
      r.opening ≡ least (opening + 1) (λ s. leb target (survival_row Down income F chances s)) → r.lower ≡ survival_row Down income F chances r.opening → r.opening ≤ opening →
      r ≡ least_found income F opening chances target
  unfolding least_found
  found_some e low l =
      let bound : r.lower ≡ cond (ltb opening r.opening) 0 (survival_row Down income F chances r.opening) = rw (le-ltb opening r.opening l) low in
      λ i. record { opening = e i; lower = (bound ∙ ap (λ (v : ℕ). cond (ltb opening v) 0 (survival_row Down income F chances v)) e) i }

  pub found_opening : r ≡ least_found income F opening chances target → r.opening ≡ least (opening + 1) (λ s. leb target (survival_row Down income F chances s))
  unfolding least_found
  found_opening e = ap (λ (f : Found). f.opening) e

  pub found_lower : r ≡ least_found income F opening chances target → r.opening ≤ opening → r.lower ≡ survival_row Down income F chances r.opening
  unfolding least_found
  found_lower e l =
      ap (λ (f : Found). f.lower) e
      ∙ ap (λ (v : ℕ). cond (ltb opening v) 0 (survival_row Down income F chances v)) (sym (found_opening e))
      ∙ rw (le-ltb opening r.opening l)

-- The row of a walk that was not given up: V_0 by the opening, some of which reaches the target.
module _ (income : ℕ) (F : List ℕ) (opening : ℕ) (chances : List ℕ) (target width t : ℕ) (row : List ℕ) (end : t ≡ 0) (fits : largest_level income opening (length chances) < width)
    (given : GivenUp income F opening chances target t)
    (back : TakenBack Down F (shape_of Survive width income) (largest_level income opening (t - 1)) (drop (t - 1) chances) (replicate width S) row) where
  pub openings_are : (v : ℕ) → v ≤ opening → from_top opening row v ≡ survival_row Down income F chances v
  openings_are v l =
      let none : t - 1 ≡ 0 = omega arith in
      back_of Down income F chances width opening (shape_of Survive width income) (replicate width S) row refl refl fits (rw (none, level_start income opening) at back) v l

  pub some_opening : Reaches target opening (from_top opening row)
  some_opening =
      let some : Reaches target opening (survival_row Down income F chances) = rw (level_start income opening) at (given.reached 0 (omega arith) zero-le) in
      record { level = some.level; inside = some.inside; enough = rw (openings_are some.level some.inside) some.enough }

  -- the least of them, by either row
  pub least_is_same :
      least (opening + 1) (λ v. leb target (from_top opening row v)) ≡ least (opening + 1) (λ v. leb target (survival_row Down income F chances v))
  least_is_same =
      least_agree (opening + 1) (λ v. leb target (from_top opening row v)) (λ v. leb target (survival_row Down income F chances v))
      (λ i l. ap (λ (x : ℕ). leb target x) (openings_are i (omega arith)))
