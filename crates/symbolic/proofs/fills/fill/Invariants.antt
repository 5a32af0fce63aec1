use Rattle.std.proofs.Common.{◌≡◌, ◌-◌, vec_len}
use Rattle.elimination.specs.Plans.{limit_verdict, limit_checked}
use Rattle.refusals.specs.Checks.{each_from}
use Rattle.symbolic.specs.Filling.{Holds}
use Rattle.symbolic.specs.Tables.{filled_from}
use Rattle.symbolic.proofs.fills.fill.Given as goal

abbrev pub invariant-loop-k : goal.invariant-loop-k
invariant-loop-k l =
    let n = l.table.n in
    let f = filled_from l.table in
    record {
      holds : Holds f n l.k l.filled;
      long : vec_len l.marks ≡ n;
      left : each_from (limit_verdict f n) l.k (n - l.k) ≡ limit_checked f n;
    }
