use Rattle.std.proofs.Common.{◌≡◌, ℕ, ◌+◌, ◌*◌, ◌<◌, Bool, true, List, length, set, vec_items, Vec, sym, ap, ◌∙◌, subst, arith}
use Rattle.std.specs.Vec.{with_items}
use Rattle.std.proofs.lemmas.List.{with_items_is, length-set}
use Rattle.std.specs.declared.alloc.Global.{Global}
use Rattle.network.specs.OrderSheet.{orders}
use Rattle.network.proofs.Marking.{Marked, step, asked, always, end}
use Rattle.network.proofs.matrices.Permuted.marks.Goals as goal
use Rattle.network.proofs.matrices.Permuted.marks.Goals.{in-Some, in_default}

-- the marks after one was written through the lent slice
written : (v v' : Vec Bool Global) (ws xs : List Bool) (i : ℕ) → v' ≡ with_items v ws → xs ≡ vec_items v → ws ≡ set xs i true → vec_items v' ≡ set (vec_items v) i true
written v v' ws xs i is lent set' =
    let same = set' ∙ ap (λ (ys : List Bool). set ys i true) lent in
    ap (λ (u : Vec Bool Global). vec_items u) is ∙ with_items_is v ws (ap length same ∙ length-set (vec_items v) i true ∙ sym v.ok.0) ∙ same

pub mark-requires : goal.mark-requires
mark-requires c =
    let m = c.args.self.now in
    let copied = c.entries-entry-items.ensures in
    let more : c.loop-entry.entry-index < length m.network.entries.items = omega (arith, ap length copied) in
    let one = step m _ c.loop-entry.entry-index _ c.in-Some.place (c.from-n.ensures ∙ c.size.ensures) more (c.in-Some.ensures ∙ asked m _ c.loop-entry.entry-index copied more) c.loop-entry.invariant in
    omega (arith, one.0, c.loop-entry.marks.ok.0)

pub loop-entry-preserved : goal.loop-entry-preserved
loop-entry-preserved c =
    let m = c.args.self.now in
    let t = c.loop-entry.entry-index in
    let n = c.from-n.result in
    let copied = c.entries-entry-items.ensures in
    let more : t < length m.network.entries.items = omega (arith, ap length copied) in
    elim c.match-place.branch [
      | in-Some w ↦
          let marked = (step m _ t _ w.in-Some.place (c.from-n.ensures ∙ c.size.ensures) more (w.in-Some.ensures ∙ asked m _ t copied more) c.loop-entry.invariant).1 in
          subst (Marked n (orders m.order) m.network.entries.items (t + 1))
          (sym (written c.loop-entry.marks c.match-place.marks w.mark.new.marks w.deref_mut.result.now (w.in-Some.place.row * n + w.in-Some.place.column) w.marks-is w.deref_mut.ensures.value w.mark.ensures))
          marked
      | in_default w ↦ absurd (always m t more (w.in_default.ensures ∙ asked m _ t copied more))
    ]

pub returns : goal.returns
returns c = end c.args.self.now _ c.loop-entry.entry-index _ (c.from-n.ensures ∙ c.size.ensures) (omega (arith, ap length c.entries-entry-items.ensures)) c.loop-entry.invariant
