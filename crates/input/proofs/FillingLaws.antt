-- What stands at the front of a room that is filled read by read.
use Rattle.std.proofs.Common.{◌≡◌, ℕ, ◌+◌, ◌≤◌, List, ◌++◌, length, take, subst, sym, ap, ◌∙◌}
use Rattle.std.proofs.Math.Seq.{take-append-add}
use Rattle.std.proofs.lemmas.List.{take-append-le}
use Rattle.std.specs.Io.KnownBytes.{Consumes}
use Rattle.std.proofs.KnownBytes.{Consumes-trans}
use Rattle.std.specs.declared.option.Option.{Option}

-- the front of a room grows by what was read into the part behind it
pub front_grows : (a b c : Option (List ℕ)) (front part rest : List ℕ) (done n : ℕ) → length front ≡ done → n ≤ length part → Consumes a b front → Consumes b c (take n part)
    → Consumes a c (take (done + n) (front ++ (part ++ rest)))
front_grows a b c front part rest done n long fits before read =
    let whole : take (done + n) (front ++ (part ++ rest)) ≡ front ++ take n part =
    ap (λ (d : ℕ). take (d + n) (front ++ (part ++ rest))) (sym long) ∙ take-append-add front (part ++ rest) n ∙ ap (λ (l : List ℕ). front ++ l) (take-append-le n part rest fits) in
    subst (Consumes a c) (sym whole) (Consumes-trans a b c front (take n part) before read)
