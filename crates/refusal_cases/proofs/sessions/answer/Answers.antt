use Rattle.std.proofs.Common.{◌≡◌, [], ◌∷◌, List, refl, ap, ◌∙◌}
use Rattle.cap_base.specs.Limits.{resources}
use Rattle.cap_model.specs.declared.request.Request.{Request}
use Rattle.cap_model.specs.News.{Reply}
use Rattle.cap_session.specs.Session.{SessionState, OpenRequest, open_requests, with_answer}
use Rattle.refusal_cases.proofs.sessions.answer.Goals as goal

-- where one request is open, none is once it was answered
last : (opens : List OpenRequest) (request : Request resources) (s : SessionState) (reply : Reply resources) → open_requests opens ≡ request ∷ [] → (with_answer s opens reply).opens ≡ []
last [] request s reply is = absurd cc
last (o ∷ []) request s reply is = refl
last (o ∷ (p ∷ opens)) request s reply is = absurd cc

pub returns-in-ClusterInfo : goal.returns-in-ClusterInfo
returns-in-ClusterInfo c = ap (λ (s : SessionState). s.opens) c.answer.ensures.answered ∙ last c.args.session.now.opens c.args.request.now c.args.session.now _ c.requires

pub returns-in-RegisterNode : goal.returns-in-RegisterNode
returns-in-RegisterNode c = ap (λ (s : SessionState). s.opens) c.answer-in-RegisterNode.ensures.answered ∙ last c.args.session.now.opens c.args.request.now c.args.session.now _ c.requires

pub returns-in_default : goal.returns-in_default
returns-in_default c = ap (λ (s : SessionState). s.opens) c.answer-in_default.ensures.answered ∙ last c.args.session.now.opens c.args.request.now c.args.session.now _ c.requires

pub returns-in-Refused-NoMemory : goal.returns-in-Refused-NoMemory
returns-in-Refused-NoMemory c = ap (λ (s : SessionState). s.opens) c.answer-in-Refused-NoMemory.ensures.answered ∙ last c.args.session.now.opens c.args.request.now c.args.session.now _ c.requires
