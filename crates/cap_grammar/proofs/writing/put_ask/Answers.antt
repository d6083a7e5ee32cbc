use Rattle.cap_grammar.proofs.Prelude.{◌≡◌, List, ℕ, [], ◌∷◌, length, ap, ◌∙◌, w32, w64, to_be_bytes, text, Key, ask, resource, amounts_in}
use Rattle.cap_grammar.proofs.Appends.{apart_five}
use Rattle.cap_grammar.proofs.writing.put_ask.Goals as goal

pub returns-clause-appends : goal.returns-clause-appends
unfolding ask
returns-clause-appends c =
    let wish = c.args.wish.now in
    apart_five _ _ _ _ _ _ _ _ _ _ _ (to_be_bytes w32 wish.key.priority) (to_be_bytes w64 wish.key.request) (to_be_bytes w32 wish.count) (resource (amounts_in c.args.version) wish.resource) (text wish.place)
    (c.to_be_bytes.ensures ∙ ap (λ (k : Key). to_be_bytes w32 k.priority) c.key-key.ensures)
    (c.to_be_bytes-2.ensures ∙ ap (λ (k : Key). to_be_bytes w64 k.request) c.key-key.ensures)
    (c.to_be_bytes-3.ensures ∙ ap (to_be_bytes w32) c.count.ensures)
    (ap (resource (amounts_in c.args.version)) c.resource.ensures)
    (ap text c.place.ensures)
    c.extend_reserved.ensures.items c.extend_reserved-2.ensures.items c.extend_reserved-3.ensures.items c.put_amounts.ensures.appends c.put_text.ensures.appends
