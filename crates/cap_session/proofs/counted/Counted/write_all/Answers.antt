use Rattle.cap_session.proofs.Prelude.{◌≡◌, ◌++◌, ◌-◌, length, take, drop, ap, refl, ◌∙◌, arith, length-drop, subst, List, ℕ, take_all, Appends, StreamState, state_of, inner_of}
use Rattle.cap_session.proofs.Bytes.{took, took_after, appends_then}
use Rattle.cap_session.proofs.counted.Counted.write_all.Goals as goal

pub loop-sent-preserved : goal.loop-sent-preserved
loop-sent-preserved g c =
    let i = c.loop-sent.invariant in
    let u = c.args.bytes.now in
    let n = c.loop-sent.sent in
    let m = c.in-Bytes.n in
    let put = c.in-Bytes.ensures.bytes in
    let rest : take (length u - n) (drop n u) ≡ drop n u = take_all (length u - n) (drop n u) (omega (arith, length-drop n u)) in
    let left : List ℕ = take (length u - n) (drop n u) in
    record {
      within = let fits = put.1 in omega (arith, fits, ap (λ (x : List ℕ). length x) rest, length-drop n u, c.loop-sent-test.true);
      state = c.in-Bytes.ensures.state ∙ ap (λ (s : StreamState). record s { taken = s.taken ++ take m left }) i.state
          ∙ ap (λ (x : List ℕ). record (state_of c.args.self.now) { taken = x }) (took_after (state_of c.args.self.now).taken u left ((state_of c.args.self.now).taken ++ take n u) n m refl rest);
      bytes = subst (λ (x : List ℕ). Appends (g.W.Write.contents (inner_of c.args.self.now)) (g.W.Write.contents (inner_of c.write.new.self)) x) (took u left n m rest)
          (appends_then _ _ _ (take n u) (take m left) i.bytes put.2);
    }
