use native.Mathlib.Omega.{arith}
use mathlib.Core.Path.{◌≡◌, ap, ◌∙◌}
use mathlib.Core.Bool.{true, false}
use mathlib.Core.List.{List}
use Prim.Native.Nat.{ℕ}
use lib.ListN.{length, length-append}
use Rattle.plan.specs.Lines.{entries_of}
use Rattle.plan.specs.Reading.{names_in, joined, ends_from, all_names}
use Rattle.plan.specs.Passes.{laid}
use Rattle.plan.proofs.LaidLaws.{length-laid}
use Rattle.plan.proofs.CountLaws.{length-ends}
use Rattle.plan.proofs.ReadLaws.{names-bytes, names-within, names-filled, ends-filled}
use Rattle.plan.proofs.fill.Goals as goal

pub put_names-own-requires : goal.put_names-own-requires
put_names-own-requires c =
    let es = entries_of c.args.text.now in
    let n = names-bytes es in
    let w = names-within c.args.text.now in
    let k = length-ends 0 (all_names es) in
    let m = length-append (names_in false es) (names_in true es) in record {
      text_in_bounds = omega (arith, n, c.requires.text_in_bounds.0);
      text_bound = omega (arith, w, c.requires.text_len_bound);
      text_in_bounds_2 = omega (arith, k, m, c.requires.text_in_bounds.1);
    }

pub put_names-requires : goal.put_names-requires
put_names-requires c =
    let a = c.args in
    let es = entries_of a.text.now in
    let p = c.put_names-own in
    let n = names-bytes es in
    let w = names-within a.text.now in
    let k = length-ends 0 (all_names es) in
    let m = length-append (names_in false es) (names_in true es) in
    let names : length p.new.names ≡ length a.names.now =
    ap length p.ensures.names_after ∙ length-laid a.names.now 0 (joined (names_in false es)) (omega (arith, n, c.requires.text_in_bounds.0)) in
    let ends : length p.new.ends ≡ length a.ends.now =
    ap length p.ensures.ends_after ∙ length-laid a.ends.now 0 (ends_from 0 (names_in false es)) (omega (arith, k, m, c.requires.text_in_bounds.1, length-ends 0 (names_in false es))) in record {
      text_in_bounds = omega (arith, n, c.requires.text_in_bounds.0, p.ensures.bytes_value, names);
      text_bound = omega (arith, w, c.requires.text_len_bound, p.ensures.bytes_value);
      text_in_bounds_2 = omega (arith, k, m, c.requires.text_in_bounds.1, p.ensures.names_value, ends);
    }

pub put_steps-requires : goal.put_steps-requires
put_steps-requires c = (c.requires.text_len_bound, c.requires.text_in_bounds_2.0)

pub put_lists-requires : goal.put_lists-requires
put_lists-requires c = (c.requires.text_len_bound, c.requires.text_in_bounds_2.1)

pub returns : goal.returns
returns c =
    let a = c.args in
    let es = entries_of a.text.now in
    let p = c.put_names-own in
    let q = c.put_names in
    let n = names-bytes es in
    let k = length-ends 0 (all_names es) in
    let m = length-append (names_in false es) (names_in true es) in record {
      names_after = q.ensures.names_after ∙ ap (λ (r : List ℕ). laid r p.result.bytes (joined (names_in true es))) p.ensures.names_after
          ∙ names-filled (names_in false es) (names_in true es) a.names.now p.result.bytes p.ensures.bytes_value (omega (arith, n, c.requires.text_in_bounds.0));
      ends_after = q.ensures.ends_after ∙ ap (λ (r : List ℕ). laid r p.result.names (ends_from p.result.bytes (names_in true es))) p.ensures.ends_after
          ∙ ends-filled (names_in false es) (names_in true es) a.ends.now p.result.names p.result.bytes p.ensures.names_value p.ensures.bytes_value (omega (arith, k, m, c.requires.text_in_bounds.1));
      steps_after = c.put_steps.ensures;
      lists_after = c.put_lists.ensures;
    }
