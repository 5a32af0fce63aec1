use Rattle.std.proofs.Common.{◌≡◌, Bool, true, false, List, [], ◌∷◌, map, refl, ap, subst, IfOk, string_bytes, rules}
use lib.Utf8.{encode, encodes}
use Rattle.std.proofs.lemmas.Iterator.{YieldsList-from_slice, YieldsList-from_map, text_from_collect}
use Rattle.lathecress.specs.Pictures.{sign_of}
use Rattle.lathecress.proofs.pictures.row.Goals as goal

-- each sign is one byte
encoded : (marks : List Bool) → encodes (map sign_of marks) ≡ map sign_of marks
unfolding encode
encoded [] = refl
encoded (true ∷ marks) = ap (λ text. 120 ∷ text) (encoded marks)
encoded (false ∷ marks) = ap (λ text. 46 ∷ text) (encoded marks)

pub returns : goal.returns
returns c =
    subst (λ text. IfOk c.collect.result (λ s. string_bytes s ≡ text)) (encoded c.args.marks.now)
    (text_from_collect _ c.collect.ensures.ran (YieldsList-from_map _ sign_of (YieldsList-from_slice c.args.marks.now cc) c.map.ensures.closure (λ x r q k. search rules)))
