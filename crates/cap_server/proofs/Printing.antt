-- What a daemon prints.
use Rattle.std.proofs.Common.{◌≡◌, ℕ, ◌≤◌, List, ◌++◌, Option, Some, None, refl, ap, ◌∙◌, append_assoc, inl, inr, subst}
use Rattle.std.specs.Io.KnownBytes.{Appends}
use Rattle.cap_server.specs.declared.serving.Totals.{Totals}
use Rattle.cap_server.specs.Epochs.{LeadsThrough, Standing}
use Rattle.cap_server.specs.Printed.{IsPrinted, IsRefused, Closes, Ends, listening_line, closed_line}

-- the totals of journals were printed
pub closed_printed : (limit : ℕ) (opening closing : Standing) (totals : Totals) (had has : Option (List ℕ)) (status : ℕ) (line : List ℕ)
    → LeadsThrough limit opening totals closing → status ≤ 1 → Appends had has line → line ≡ closed_line totals → IsPrinted had has (Closes limit opening status)
closed_printed limit opening closing totals had has status line journals done appends is = record {
  out = line;
  appends = appends;
  holds = inr (record { totals = totals; closing = closing; journals = journals; printed = is; done = done });
}

appends_then : (u v w : Option (List ℕ)) (a b : List ℕ) → Appends u v a → Appends v w b → Appends u w (a ++ b)
appends_then None v w a b x y = tt
appends_then (Some xs) None w a b x y = absurd x
appends_then (Some xs) (Some ys) None a b x y = absurd y
appends_then (Some xs) (Some ys) (Some zs) a b x y = y ∙ ap (λ (q : List ℕ). q ++ b) x ∙ append_assoc xs a b

-- nothing was served
pub refused_ends : (limit : ℕ) (opening : Standing) (had has : Option (List ℕ)) (status : ℕ) → IsPrinted had has (IsRefused status) → IsPrinted had has (Ends limit opening status)
refused_ends limit opening had has status p = record { out = p.out; appends = p.appends; holds = inl p.holds }

-- the port, and then what came of the epochs
pub listens_then : (limit most : ℕ) (opening first : Standing) (port : ℕ) (had mid has : Option (List ℕ)) (status : ℕ) → most ≡ limit → first ≡ opening
    → Appends had mid (listening_line port) → IsPrinted mid has (Closes most first status) → IsPrinted had has (Ends limit opening status)
listens_then limit most opening first port had mid has status is_limit is_opening p q =
    subst (λ (n : ℕ). IsPrinted had has (Ends n opening status)) is_limit (subst (λ (s : Standing). IsPrinted had has (Ends most s status)) is_opening (record {
      out = listening_line port ++ q.out;
      appends = appends_then had mid has (listening_line port) q.out p q.appends;
      holds = inr (record { port = port; more = q.out; printed = refl; closes = q.holds });
    }))
