use Rattle.cap_grammar.proofs.Prelude.{◌≡◌, List, ℕ, [], ◌∷◌, length, ap, ◌∙◌, w32, w64, to_be_bytes, Key, grant, resource, amounts_in}
use Rattle.cap_grammar.proofs.Appends.{seven}
use Rattle.cap_grammar.proofs.news.put_grant.Goals as goal

pub returns-clause-appends : goal.returns-clause-appends
unfolding grant
returns-clause-appends c =
    let told = c.args.told.now in
    let host : c.as_bytes-host.result.now ≡ told.host = c.as_bytes-host.ensures.value ∙ c.host-host.ensures in
    seven _ _ _ _ _ _ _ _ _ _ _ _ _ _ _ (to_be_bytes w64 told.container) (to_be_bytes w32 told.key.priority) (to_be_bytes w64 told.key.request) (to_be_bytes w64 told.node) (length told.host ∷ []) told.host (resource (amounts_in c.args.version) told.resource)
    (c.to_be_bytes.ensures ∙ ap (to_be_bytes w64) c.container.ensures)
    (c.to_be_bytes-2.ensures ∙ ap (λ (k : Key). to_be_bytes w32 k.priority) c.key-key.ensures)
    (c.to_be_bytes-3.ensures ∙ ap (λ (k : Key). to_be_bytes w64 k.request) c.key-key.ensures)
    (c.to_be_bytes-4.ensures ∙ ap (to_be_bytes w64) c.node.ensures)
    (ap (λ (h : List ℕ). length h ∷ []) host)
    host
    (ap (resource (amounts_in c.args.version)) c.resource.ensures)
    c.extend_reserved.ensures.items c.extend_reserved-2.ensures.items c.extend_reserved-3.ensures.items c.extend_reserved-4.ensures.items c.extend_reserved-5.ensures.items c.extend_reserved-6.ensures.items c.put_amounts.ensures.appends
