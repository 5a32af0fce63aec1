use Rattle.std.proofs.Common.{◌≡◌, ℕ, ◌+◌, ◌-◌, Bool, List, length, vec_len, sym, ap, ◌∙◌, subst, arith, rules}
use Rattle.std.proofs.lemmas.List.{take_at}
use Rattle.elimination.specs.Fill.{Places}
use Rattle.symbolic.specs.declared.patterns.Filled.{Filled}
use Rattle.elimination.specs.Plans.{limit_verdict, limit_checked}
use Rattle.refusals.specs.declared.Refusal.TheVariants.{FillLimit}
use Rattle.refusals.specs.Checks.{each_from}
use Rattle.refusals.proofs.Checking.{each_from_goes, each_from_stops}
use Rattle.symbolic.specs.Filling.{Holds}
use Rattle.symbolic.specs.Tables.{filled_from}
use Rattle.symbolic.specs.Marks.{marks_in}
use Rattle.symbolic.proofs.FilledFacts.{columns_count, entries_long}
use Rattle.symbolic.proofs.Limits.{within_limit, past_limit, tries_refused}
use Rattle.symbolic.proofs.fills.fill.Goals as goal

pub loop-k-init : goal.loop-k-init
loop-k-init c =
    let n = c.args.table.now.n in
    let f = filled_from c.args.table.now in
    let all : n - 0 ≡ n = omega arith in
    record { holds = c.new-filled.ensures f n; long = search rules; left = ap (each_from (limit_verdict f n) 0) all }

-- what is known once column k was added
module _ (f : Places) (n k : ℕ) (marks : List Bool) (old new : Filled) (holds : Holds f n k old) (filled : marks ≡ marks_in f n (vec_len old.columns))
    (added : (g : Places) (m : ℕ) → marks ≡ marks_in g m (vec_len old.columns) → Holds g m (vec_len old.columns) old → Holds g m (vec_len old.columns + 1) new) where
  count : vec_len old.columns ≡ k
  count = columns_count f n k old holds

  one_more : Holds f n (k + 1) new
  one_more =
      subst (λ (j : ℕ). Holds f n (j + 1) new) count
      (added f n filled (subst (λ (j : ℕ). Holds f n j old) (sym count) holds))

pub fill_column-requires : goal.fill_column-requires
fill_column-requires c =
    let n = c.args.table.now.n in
    let f = filled_from c.args.table.now in
    let count = columns_count f n c.loop-k.k c.loop-k.filled c.loop-k.invariant.holds in
    record {
      long = omega (arith, c.loop-k.invariant.long, c.deref_mut.ensures.len);
      inside = omega (arith, count, c.loop-k-test.true);
      holds = subst (λ (j : ℕ). Holds f n j c.loop-k.filled) (sym count) c.loop-k.invariant.holds;
    }

pub add_column-requires-clause-inside : goal.add_column-requires-clause-inside
add_column-requires-clause-inside c =
    let n = c.args.table.now.n in
    let f = filled_from c.args.table.now in
    let count = columns_count f n c.loop-k.k c.loop-k.filled c.loop-k.invariant.holds in
    let lent = c.deref.ensures.value ∙ take_at c.fill_column.new.marks _ c.loop-k.marks.len (c.fill_column.auto.marks ∙ c.deref_mut.ensures.len) in
    omega (arith, count, c.loop-k-test.true, ap length lent, c.fill_column.auto.marks, c.deref_mut.ensures.len, c.loop-k.invariant.long)

pub returns-then-len-gt-MAX_FILLED : goal.returns-then-len-gt-MAX_FILLED
returns-then-len-gt-MAX_FILLED c =
    let n = c.args.table.now.n in
    let f = filled_from c.args.table.now in
    let k = c.loop-k.k in
    let x = c.add_column.new.self in
    let marks : c.deref.result.now ≡ marks_in f n (vec_len c.loop-k.filled.columns) = c.deref.ensures.value ∙ take_at c.fill_column.new.marks _ c.loop-k.marks.len (c.fill_column.auto.marks ∙ c.deref_mut.ensures.len) ∙ c.fill_column.ensures in
    let holds = one_more f n k c.deref.result.now c.loop-k.filled x c.loop-k.invariant.holds marks c.in_ok-add_column.ensures in
    let many = past_limit f n k (omega (arith, entries_long f n (k + 1) x holds, c.len.ensures, c.if-len-gt-MAX_FILLED.true)) in
    tries_refused (Holds f n n) (limit_checked f n) (FillLimit k) (sym c.loop-k.invariant.left ∙ each_from_stops (limit_verdict f n) k n (FillLimit k) c.loop-k-test.true many)

pub loop-k-preserved : goal.loop-k-preserved
loop-k-preserved c =
    let n = c.args.table.now.n in
    let f = filled_from c.args.table.now in
    let k = c.loop-k.k in
    let x = c.add_column.new.self in
    let marks : c.deref.result.now ≡ marks_in f n (vec_len c.loop-k.filled.columns) = c.deref.ensures.value ∙ take_at c.fill_column.new.marks _ c.loop-k.marks.len (c.fill_column.auto.marks ∙ c.deref_mut.ensures.len) ∙ c.fill_column.ensures in
    let holds = one_more f n k c.deref.result.now c.loop-k.filled x c.loop-k.invariant.holds marks c.in_ok-add_column.ensures in
    let few = within_limit f n k (omega (arith, entries_long f n (k + 1) x holds, c.len.ensures, c.if-len-gt-MAX_FILLED.false)) in
    record { holds = holds; long = c.loop-k.invariant.long; left = sym (each_from_goes (limit_verdict f n) k n c.loop-k-test.true few) ∙ c.loop-k.invariant.left }
