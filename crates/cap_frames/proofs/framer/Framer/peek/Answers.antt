use Rattle.cap_frames.proofs.Prelude.{◌∙◌, sym}
use Rattle.cap_frames.proofs.Histories.{payload_comes}
use Rattle.cap_frames.proofs.framer.Framer.peek.Goals as goal

pub returns-in-Whole-clause-comes : goal.returns-in-Whole-clause-comes
returns-in-Whole-clause-comes c =
    let first = c.first_payload.ensures in
    payload_comes c.self.inside c.args.self.now c.first_payload.result.now first.0 c.if-self.false c.self.invariant c.self.view_is first.1 (sym c.as_slice-bytes.ensures ∙ first.2)
