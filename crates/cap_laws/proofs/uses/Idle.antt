-- Where nothing is live and nothing reserved, nothing is used.
use Rattle.cap_laws.proofs.Prelude.{◌≡◌, ℕ, false, [], subst, inl, inr, zeros, Flat, app_at, IsIn, counts}
use Rattle.cap_laws.proofs.calls.Lessening.{IsSite}
use Rattle.cap_laws.proofs.uses.Tallies.{Test, used_by}
use Rattle.cap_laws.proofs.uses.Counting.{unused}

pub idle_use : {K : ℕ} (cluster : Flat K) (test : Test) → cluster.nodes.live ≡ [] → cluster.nodes.reserved ≡ [] → used_by cluster test ≡ zeros K
idle_use cluster test live reserved = unused cluster test none
  where
    none : (app node : ℕ) → IsSite cluster app node → counts test (app_at cluster app) ≡ false
    none app node (inl (c, m, a, b)) = absurd (subst (IsIn c) live m)
    none app node (inr (r, m, a, b)) = absurd (subst (IsIn r) reserved m)
