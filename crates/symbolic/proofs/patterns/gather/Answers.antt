use Rattle.std.proofs.Common.{◌≡◌, ℕ, ◌+◌, Bool, true, false, List, [], ◌∷◌, ◌++◌, map, get_or, vec_items, filter, sym, ap, ◌∙◌, arith}
use Rattle.std.specs.List.{range_with_len}
use Rattle.std.proofs.lemmas.List.{append_assoc, map_push}
use Rattle.network.specs.declared.entries.Entry.{Entry}
use Rattle.elimination.specs.Plans.{in_column}
use Rattle.elimination.proofs.Storing.{kept_more_yes, kept_more_no}
use Rattle.symbolic.proofs.patterns.gather.Goals as goal
use Rattle.symbolic.proofs.patterns.gather.Goals.{then-marked+in_ok-push, else-marked}

-- one row more was looked at
module _ (p : ℕ → Bool) (k i : ℕ) (old entries : List Entry) (so_far : entries ≡ old ++ map (in_column k) (filter p (range_with_len 0 i))) where
  added : p i ≡ true → entries ++ in_column k i ∷ [] ≡ old ++ map (in_column k) (filter p (range_with_len 0 (i + 1)))
  added marked =
      ap (λ (xs : List Entry). xs ++ in_column k i ∷ []) so_far ∙ append_assoc old _ (in_column k i ∷ [])
      ∙ ap (λ (xs : List Entry). old ++ xs) (sym (ap (map (in_column k)) (kept_more_yes p i marked) ∙ map_push (in_column k) _ i))

  skipped : p i ≡ false → entries ≡ old ++ map (in_column k) (filter p (range_with_len 0 (i + 1)))
  skipped empty = so_far ∙ ap (λ (xs : List ℕ). old ++ map (in_column k) xs) (sym (kept_more_no p i empty))

pub loop-i-preserved : goal.loop-i-preserved
loop-i-preserved c =
    let p : ℕ → Bool = λ i. get_or c.args.marks.now i false in
    let old = vec_items c.args.entries.now in
    elim c.if-marked.branch [
      | then-marked+in_ok-push w ↦ rw w.entries-is record {
        items = w.in_ok-push.ensures.items ∙ added p c.args.k c.loop-i.i old (vec_items c.loop-i.entries) c.loop-i.invariant.items w.if-marked.true;
        grows = omega (arith, w.in_ok-push.ensures.len, c.loop-i.invariant.grows);
      }
      | else-marked w ↦ rw w.entries-is record {
        items = skipped p c.args.k c.loop-i.i old (vec_items c.loop-i.entries) c.loop-i.invariant.items w.if-marked.false;
        grows = c.loop-i.invariant.grows;
      }
    ]
