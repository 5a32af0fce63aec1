use Rattle.std.proofs.Common.{◌≡◌, ℕ, Bool, true, false, eqb, List, [], ◌∷◌, ◌++◌, get_or, vec_items, sym, ap, ◌∙◌}
use Rattle.std.proofs.lemmas.List.{append_assoc}
use Rattle.std.proofs.lemmas.Bool.{eq-eqb, ne_eqb}
use Rattle.elimination.proofs.Storing.{kept_more_yes, kept_more_no}
use Rattle.symbolic.proofs.levels.add_level.Goals as goal
use Rattle.symbolic.proofs.levels.add_level.Goals.{then-from-level+in_ok-push, else-from-level}

pub loop-k-preserved : goal.loop-k-preserved
loop-k-preserved c =
    let p : ℕ → Bool = λ k. eqb (get_or c.args.levels.now k 0) c.args.level in
    let old = vec_items c.args.sequence.now in
    let k = c.loop-k.k in
    elim c.if-from-level.branch [
      | then-from-level+in_ok-push w ↦
          let on : p k ≡ true = eq-eqb _ _ (sym c.from.ensures ∙ w.if-from-level.true) in
          rw w.sequence-is (
          w.in_ok-push.ensures.items ∙ ap (λ (xs : List ℕ). xs ++ k ∷ []) c.loop-k.invariant ∙ append_assoc old _ (k ∷ [])
          ∙ ap (λ (xs : List ℕ). old ++ xs) (sym (kept_more_yes p k on)))
      | else-from-level w ↦
          let off : p k ≡ false = ne_eqb _ _ (λ same. w.if-from-level.false (c.from.ensures ∙ same)) in
          rw w.sequence-is (c.loop-k.invariant ∙ ap (λ (xs : List ℕ). old ++ xs) (sym (kept_more_no p k off)))
    ]
