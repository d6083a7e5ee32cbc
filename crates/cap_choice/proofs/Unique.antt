-- The choice on a node, and from a starting node, is one alone.
use Rattle.cap_choice.proofs.Prelude.{◌≡◌, ℕ, List, [], ◌∷◌, sym, ◌∙◌, inl, inr, Option, Some, None, IsSome, Sight, NodeSight, NodeProposal, ring_from}
use Rattle.cap_choice.proofs.Choosing.{one_on_node}
use Rattle.cap_choice.specs.Unique.{ChoiceFromIsUnique, NodeChoiceIsUnique}
use Rattle.cap_model.specs.Choice.{IsFirstChoice}

some_is_not_none : (o : Option NodeProposal) → IsSome o → o ≡ None → ⊥
some_is_not_none None h e = cc h
some_is_not_none (Some x) h e = cc e

one_of_nodes : {K : ℕ} (sight : Sight K) (nodes : List NodeSight) (a b : Option NodeProposal) → IsFirstChoice sight nodes a → IsFirstChoice sight nodes b → a ≡ b
one_of_nodes sight [] a b h g = h ∙ sym g
one_of_nodes sight (node ∷ nodes) a b (inl h) (inl g) = one_on_node sight node.number a b h.1 g.1
one_of_nodes sight (node ∷ nodes) a b (inl h) (inr g) = absurd (some_is_not_none a h.0 (one_on_node sight node.number a None h.1 g.0))
one_of_nodes sight (node ∷ nodes) a b (inr h) (inl g) = absurd (some_is_not_none b g.0 (one_on_node sight node.number b None g.1 h.0))
one_of_nodes sight (node ∷ nodes) a b (inr h) (inr g) = one_of_nodes sight nodes a b h.1 g.1

pub node_choice_is_unique : NodeChoiceIsUnique
node_choice_is_unique K sight n a b h g = one_on_node sight n a b h g

pub choice_from_is_unique : ChoiceFromIsUnique
choice_from_is_unique K sight start a b h g = one_of_nodes sight (ring_from start sight.nodes) a b h g
