use Rattle.cap_tree.proofs.Prelude.{rules, arith, ◌≡◌, ◌<◌, length, ◌∙◌, ap, subst, get_or, vec_len, false≢true}
use Rattle.cap_tree.proofs.Finds.{child-lt}
use Rattle.cap_tree.proofs.Copies.{made-spots, branch_made, copied_more, copied_all, copied_length}
use Rattle.cap_tree.proofs.branch.Branch.+copy_in.Goals as goal

pub loop-child-init : goal.loop-child-init
loop-child-init g t c = record {
  items = c.in-Ok-with_capacity.ensures.items;
  room = omega (arith, c.in-Ok-with_capacity.ensures.capacity, c.deref-child-items.ensures.len, c.len.ensures);
}

pub offset_bounds-child-items-child-index : goal.offset_bounds-child-items-child-index
offset_bounds-child-items-child-index g t c = c.loop-child.auto.child-index-end

pub copy_in-requires-in-loop-child : goal.copy_in-requires-in-loop-child
copy_in-requires-in-loop-child g t c =
    let is : c.child-item.result ≡ get_or c.self.inside.children.items c.loop-child.child-index c.child-item.result = c.child-item.is ∙ ap (λ xs. get_or xs c.loop-child.child-index c.child-item.result) c.deref-child-items.ensures.value in
    let within : c.loop-child.child-index < length c.self.inside.children.items = subst (λ xs. c.loop-child.child-index < length xs) c.deref-child-items.ensures.value c.loop-child-test.true in
    let w = child-lt g.T.TreeItem.name c.self.inside.item c.self.inside.children.items c.args.self.now c.loop-child.child-index c.child-item.result c.self.view_is within is in
    λ κs l. (search (rules, w), (search rules, search rules))

pub push_reserved-requires : goal.push_reserved-requires
push_reserved-requires g t c =
    let n = copied_length g.T.CopyIn.copied c.deref-child-items.result.now c.loop-child.child-index c.loop-child.children.items (omega (arith, c.loop-child-test.true)) c.loop-child.invariant.items in
    let l : vec_len c.loop-child.children ≡ length c.loop-child.children.items = omega arith in
    omega (arith, n, l, c.loop-child-test.true, c.loop-child.invariant.room)

pub loop-child-smaller : goal.loop-child-smaller
loop-child-smaller g t c = omega arith

pub loop-child-preserved : goal.loop-child-preserved
loop-child-preserved g t c = record {
  items = copied_more g.T.CopyIn.copied c.deref-child-items.result.now c.loop-child.child-index c.child-item.result c.in-Ok-copy_in.copy c.loop-child.children.items c.push_reserved.new.self.items c.loop-child-test.true c.child-item.is c.in-Ok-copy_in.ensures c.loop-child.invariant.items c.push_reserved.ensures.items;
  room = omega (arith, c.loop-child.invariant.room, c.push_reserved.ensures.capacity);
}

pub invariant_of-result : goal.invariant_of-result
invariant_of-result g t c =
    let all = copied_all g.T.CopyIn.copied c.deref-child-items.result.now c.loop-child.child-index c.self.inside.children.items c.loop-child.children.items c.deref-child-items.ensures.value (omega (arith, c.loop-child-test.false)) c.loop-child.invariant.items in (
      rw (all, c.in-Ok.ensures)
          (branch_made g.T.CopyIn.copied g.T.TreeItem.name g.T.TreeItem.stored g.T.TreeItem.own g.U.TreeItem.name g.U.TreeItem.stored g.U.TreeItem.own g.met.T.CopyIn.name_copied g.met.T.CopyIn.stored_copied g.met.T.CopyIn.own_copied c.self.inside.item c.self.inside.children.items c.self.invariant.0),
      λ sorted. absurd (false≢true sorted),
    )

pub returns : goal.returns
returns g t c =
    let all = copied_all g.T.CopyIn.copied c.deref-child-items.result.now c.loop-child.child-index c.self.inside.children.items c.loop-child.children.items c.deref-child-items.ensures.value (omega (arith, c.loop-child-test.false)) c.loop-child.invariant.items in
    rw (← c.self.view_is)
    (rw (all, c.in-Ok.ensures) (made-spots g.T.CopyIn.copied g.T.TreeItem.name g.U.TreeItem.name c.self.inside.item c.self.inside.children.items (g.met.T.CopyIn.name_copied c.self.inside.item)))
