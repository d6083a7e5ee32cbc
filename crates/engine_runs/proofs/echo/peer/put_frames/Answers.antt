use Rattle.std.proofs.Common.{◌≡◌, ◌++◌, ◌∷◌, [], ℕ, List, length, ap, subst, sym, ◌∙◌}
use Rattle.std.specs.List.{All}
use Rattle.std.proofs.Math.Seq.{drop-append_seam}
use Rattle.std.proofs.lemmas.List.{append_assoc}
use Rattle.std.proofs.lemmas.List.Elements.{All-drop, All-head}
use Rattle.cap_frames.specs.Stream.{IsPayload}
use Rattle.cap_frames.specs.History.{History, IsReading, after_gift}
use Rattle.engine_runs.proofs.echo.peer.put_frames.Goals as goal

-- what a framer just gave is a payload
given_is_payload : (h k : History) (payload : List ℕ) → k ≡ after_gift h payload → IsReading k → IsPayload payload
given_is_payload h k payload gift reading =
    let coming = reading.0 in
    let each : All IsPayload (h.given ++ (payload ∷ coming)) = subst (All IsPayload) (ap (λ (x : History). x.given ++ coming) gift ∙ append_assoc h.given (payload ∷ []) coming) reading.2.each in
    All-head IsPayload payload coming (subst (All IsPayload) (drop-append_seam h.given (payload ∷ coming)) (All-drop IsPayload (length h.given) (h.given ++ (payload ∷ coming)) each))

pub put_frame-requires : goal.put_frame-requires
put_frame-requires c =
    let p = c.in-Ok-Some.payload in
    let gift : c.next.new.self ≡ after_gift c.loop-payload.framer p.items = rw c.in-Ok-Some.field-0-is at c.in-Ok-Some.ensures.frame in
    subst IsPayload (sym c.as_slice.ensures) (given_is_payload c.loop-payload.framer c.next.new.self p.items gift c.next.ensures.reading)
