use Rattle.cap_tree.proofs.Prelude.{◌≡◌, ◌∙◌, ap, arith, Count, shares, sum-no_users}
use Rattle.cap_tree.proofs.Sizes.{amounts_in_queue, shares_in_queue}
use Rattle.cap_tree.proofs.Users.{users_of}
use Rattle.cap_tree.specs.Queue.{active_of}
use Rattle.cap_tree.proofs.queue.Queue.new.Goals as goal

pub of-requires : goal.of-requires
of-requires g c = search (amounts_in_queue, shares_in_queue)

pub factor-requires : goal.factor-requires
factor-requires g c = search

pub maximum-requires : goal.maximum-requires
maximum-requires g c = search amounts_in_queue

pub is_running-requires : goal.is_running-requires
is_running-requires g c = search

pub invariant_of-result : goal.invariant_of-result
invariant_of-result g c = record {
  shares_are = c.of.ensures ∙ ap (λ (u : Count). shares u.used c.guaranteed-guaranteed.result) c.count.view_is;
  has_room = let none : active_of (users_of c.new.result.entries) ≡ 0 = ap (λ es. active_of (users_of es)) c.new.ensures.empty ∙ sum-no_users (λ (u : Count). u.active) in omega (arith, none);
}
