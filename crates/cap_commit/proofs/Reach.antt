-- No present node could take what impossible asks want, as applications and nodes change.
use Rattle.cap_commit.proofs.Prelude.{◌≡◌, ℕ, Bool, false, List, [], ◌∷◌, ◌++◌, map, sym, ◌∙◌, subst, inl, inr, not, ◌==◌, filter, if◌then◌else◌, not-true, kept_if, All, Ask, ClusterNode, NodeTable, IsIn, each_of, of_each, in_either, of_filter, of_map, add_node, change_node, new_node, remove_node, could_take, AreAmong, AreAmongOr, AreLeftBy, Want, AreOutOfReach}

-- nothing is wanted
pub none_wanted : (nodes : List ClusterNode) (wants : List Want) → wants ≡ [] → AreOutOfReach nodes wants
none_wanted nodes wants none want m = absurd (subst (IsIn want) none m)

-- no more is wanted, or that of one ask, where no node may take it
pub no_more_wanted : (nodes : List ClusterNode) (old new : List Want) → AreAmong new old → AreOutOfReach nodes old → AreOutOfReach nodes new
no_more_wanted nodes old new among h want m = h want (among want m)

pub ask_wanted : (nodes : List ClusterNode) (ask : Ask) (may : Bool) (old new : List Want) → AreAmongOr ask (not may) new old → (may ≡ false → All (λ node. could_take ask.place ask.resource node ≡ false) nodes) → AreOutOfReach nodes old → AreOutOfReach nodes new
ask_wanted nodes ask may old new among none h want m =
    elim (among want m) [
      | inl there ↦ h want there
      | inr own ↦ subst (λ (w : Want). All (λ node. could_take w.place w.resource node ≡ false) nodes) (sym own.1) (none (not-true may own.0))
    ]

-- the same nodes
pub nodes_same : (old new : List ClusterNode) (wants : List Want) → new ≡ old → AreOutOfReach old wants → AreOutOfReach new wants
nodes_same old new wants same h = subst (λ nodes. AreOutOfReach nodes wants) (sym same) h

-- a node has come
pub node_came : (host rack total : List ℕ) (old new : NodeTable) (wants wants' : List Want) → new ≡ add_node host rack total old → AreLeftBy host rack total wants' wants → AreOutOfReach old.present wants → AreOutOfReach new.present wants'
node_came host rack total old new wants wants' e left h =
    subst (λ (t : NodeTable). AreOutOfReach t.present wants') (sym e)
    (λ want m.
    let off : ClusterNode → Type 0 = λ node. could_take want.place want.resource node ≡ false in
    let one = new_node old.next_node host rack total in
    of_each off (old.present ++ one ∷ []) (λ x there. elim (in_either x old.present (one ∷ []) there) [
      | inl before ↦ each_of off old.present (h want (left want m).0) x before
      | inr (inl is) ↦ subst off is (left want m).1
      | inr (inr none) ↦ absurd none
    ]))

-- a node has changed, and could take what it could
pub node_changed : (n : ℕ) (f : ClusterNode → ClusterNode) → ((place resource : List ℕ) (x : ClusterNode) → could_take place resource (f x) ≡ could_take place resource x) → (old new : NodeTable) (wants : List Want) → new ≡ change_node n f old →
    AreOutOfReach old.present wants → AreOutOfReach new.present wants
node_changed n f same old new wants e h =
    subst (λ (t : NodeTable). AreOutOfReach t.present wants) (sym e)
    (λ want m.
    let off : ClusterNode → Type 0 = λ node. could_take want.place want.resource node ≡ false in
    of_each off (map g old.present) (λ y there.
    let x = of_map g old.present y there in
    subst off (x.2) (kept_if ((x.0).number == n) (could_take want.place want.resource) (f (x.0)) (x.0) (same want.place want.resource (x.0)) ∙ each_of off old.present (h want m) (x.0) (x.1))))
  where
    g : ClusterNode → ClusterNode
    g node = if node.number == n then f node else node

-- a node is gone
pub node_gone : (n : ℕ) (old new : NodeTable) (wants : List Want) → new ≡ remove_node n old → AreOutOfReach old.present wants → AreOutOfReach new.present wants
node_gone n old new wants e h =
    subst (λ (t : NodeTable). AreOutOfReach t.present wants) (sym e)
    (λ want m.
    let off : ClusterNode → Type 0 = λ node. could_take want.place want.resource node ≡ false in
    let others : ClusterNode → Bool = λ node. not (node.number == n) in
    of_each off (filter others old.present) (λ x there. each_of off old.present (h want m) x (of_filter others old.present x there).1))
