use Rattle.cap_config.proofs.Prelude.{◌≡◌, ◌++◌, ◌∷◌, [], ◌<◌, length, true, false, Some, sym, ap, ◌∙◌, arith, eqb, List, ℕ, slice_split, nat_tests, trimmed_bytes, is_next, cut_shorter}
use Rattle.cap_config.proofs.NameLists.{names_from, names_for_is, cut_yes, cut_no, last_yes, last_no}
use Rattle.cap_config.proofs.names.names_for.Goals as goal

pub loop-part-smaller : goal.loop-part-smaller
loop-part-smaller c = cut_shorter 44 c.loop-part.rest.now c.in-Some.part.now c.in-Some.after.now c.in-Some.ensures.found

pub loop-part-preserved : goal.loop-part-preserved
loop-part-preserved c =
    let next : is_next c.args.path.now c.loop-part.names.items (trimmed_bytes c.in-Some.part.now) ≡ true =
    ap (is_next c.args.path.now c.loop-part.names.items) (sym c.trimmed.ensures) ∙ sym c.in_ok-add_name.ensures.taken ∙ c.if-not-branch.false in
    let all : c.add_name.new.names.items ≡ c.loop-part.names.items ++ trimmed_bytes c.in-Some.part.now ∷ [] =
    c.in_ok-add_name.ensures.names c.if-not-branch.false ∙ ap (λ (n : List ℕ). c.loop-part.names.items ++ n ∷ []) c.trimmed.ensures in
    record {
      seen = c.in_ok-add_name.ensures.seen c.if-not-branch.false;
      so_far =
          c.loop-part.invariant.so_far
          ∙ cut_yes _ _ _ _ _ c.in-Some.ensures.found next
          ∙ ap (λ (ns : List (List ℕ)). names_from c.args.path.now ns (slice_split (λ b. eqb b 44) c.in-Some.after.now)) (sym all);
    }

pub returns-then-not-branch : goal.returns-then-not-branch
returns-then-not-branch c =
    let full : 0 < length c.args.bytes.now = grind (arith, nat_tests) in
    let no : is_next c.args.path.now c.loop-part.names.items (trimmed_bytes c.in-Some.part.now) ≡ false =
    ap (is_next c.args.path.now c.loop-part.names.items) (sym c.trimmed.ensures) ∙ sym c.in_ok-add_name.ensures.taken ∙ c.if-not-branch.true in
    sym (sym (names_for_is c.args.path.now c.args.bytes.now full) ∙ c.loop-part.invariant.so_far ∙ cut_no _ _ _ _ _ c.in-Some.ensures.found no)

pub returns-then-not-branch-2 : goal.returns-then-not-branch-2
returns-then-not-branch-2 c =
    let full : 0 < length c.args.bytes.now = grind (arith, nat_tests) in
    let no : is_next c.args.path.now c.loop-part.names.items (trimmed_bytes c.loop-part.rest.now) ≡ false =
    ap (is_next c.args.path.now c.loop-part.names.items) (sym c.trimmed-2.ensures) ∙ sym c.in_ok-add_name-2.ensures.taken ∙ c.if-not-branch-2.true in
    sym (sym (names_for_is c.args.path.now c.args.bytes.now full) ∙ c.loop-part.invariant.so_far ∙ last_no _ _ _ c.in_default.ensures.none no)

pub returns : goal.returns
returns c =
    let full : 0 < length c.args.bytes.now = grind (arith, nat_tests) in
    let yes : is_next c.args.path.now c.loop-part.names.items (trimmed_bytes c.loop-part.rest.now) ≡ true =
    ap (is_next c.args.path.now c.loop-part.names.items) (sym c.trimmed-2.ensures) ∙ sym c.in_ok-add_name-2.ensures.taken ∙ c.if-not-branch-2.false in
    let all : c.add_name-2.new.names.items ≡ c.loop-part.names.items ++ trimmed_bytes c.loop-part.rest.now ∷ [] =
    c.in_ok-add_name-2.ensures.names c.if-not-branch-2.false ∙ ap (λ (n : List ℕ). c.loop-part.names.items ++ n ∷ []) c.trimmed-2.ensures in
    ap Some (c.new-2.ensures ∙ all) ∙ sym (sym (names_for_is c.args.path.now c.args.bytes.now full) ∙ c.loop-part.invariant.so_far ∙ last_yes _ _ _ c.in_default.ensures.none yes)
