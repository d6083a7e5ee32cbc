use Rattle.cap_config.proofs.Prelude.{◌-◌, arith, sym, ◌∙◌, ap, cond, Some, nat_cmp, Bool, Option, drop, find, get_by, slice_cmp, bytes_eq, btree_map_updates_str, Entry, is_entry_for, is_path_at}
use Rattle.cap_config.proofs.Places.{found_after, find_before}
use Rattle.cap_config.proofs.index.places_of.Goals as goal

pub loop-i-preserved-in_ok-insert : goal.loop-i-preserved-in_ok-insert
loop-i-preserved-in_ok-insert c =
    let entry = c.index-entries-i.result in
    let path = c.in-Some.path.now in
    record {
      within = omega (arith, c.loop-i.invariant.within);
      found = λ q.
          found_after (bytes_eq path q) (get_by (λ k. slice_cmp nat_cmp q k.now) c.loop-i.places) (get_by (λ k. slice_cmp nat_cmp q k.now) c.insert.new.self) _
          (btree_map_updates_str path c.loop-i.places c.insert.new.self _ c.in_ok-insert.ensures.updates q)
          ∙ ap (λ (o : Option Entry). cond (bytes_eq path q) (Some entry) o) (c.loop-i.invariant.found q)
          ∙ ap (λ (here : Bool). cond here (Some entry) (find (is_entry_for c.args.setting q) (drop c.loop-i.i c.args.entries.now))) (ap (λ o. is_path_at o q) c.in-Some.ensures)
          ∙ sym (find_before (is_entry_for c.args.setting q) c.args.entries.now c.loop-i.i (c.loop-i.i - 1) entry (omega arith) c.loop-i.invariant.within c.index-entries-i.is);
    }
