-- What readers gave and writers took, one time after the other.
use Rattle.cap_serving.proofs.Prelude.{◌≡◌, ℕ, ◌+◌, ◌-◌, ◌^◌, List, [], ◌++◌, Option, Some, None, refl, ap, ap₂, sym, ◌∙◌, subst, append_assoc, append-nil, length, min, arith, length-append, Appends, Consumes, StreamState, CanCount, Sent, EndCause, IsRead, IsWritten, IsLost, after_reads, reader_at, writer_at, end_of}
use Rattle.cap_session.specs.declared.counted.Sent.TheVariants as sents
use Rattle.cap_serving.specs.declared.sessions.EndCause.TheVariants as ends

pub consumes_none : (u : Option (List ℕ)) → Consumes u u []
consumes_none None = tt
consumes_none (Some xs) = refl

consumes_then : (u v w : Option (List ℕ)) (a b : List ℕ) → Consumes u v a → Consumes v w b → Consumes u w (a ++ b)
consumes_then None v w a b x y = tt
consumes_then (Some xs) None w a b x y = absurd x
consumes_then (Some xs) (Some ys) None a b x y = absurd y
consumes_then (Some xs) (Some ys) (Some zs) a b x y = x ∙ ap (λ (q : List ℕ). a ++ q) y ∙ sym (append_assoc a b zs)

appends_none : (u : Option (List ℕ)) → Appends u u []
appends_none None = tt
appends_none (Some xs) = sym (append-nil xs)

appends_then : (u v w : Option (List ℕ)) (a b : List ℕ) → Appends u v a → Appends v w b → Appends u w (a ++ b)
appends_then None v w a b x y = tt
appends_then (Some xs) None w a b x y = absurd x
appends_then (Some xs) (Some ys) None a b x y = absurd y
appends_then (Some xs) (Some ys) (Some zs) a b x y = y ∙ ap (λ (q : List ℕ). q ++ b) x ∙ append_assoc xs a b

-- ---- readers

none_lost : (end : Option EndCause) → IsLost end []
none_lost None = refl
none_lost (Some ends.InputEnded) = refl
none_lost (Some ends.Quiet) = refl
none_lost (Some ends.ReadFault) = refl
none_lost (Some ends.WriteFault) = refl
none_lost (Some ends.Faulted) = refl
none_lost (Some (ends.Sealed q)) = refl
none_lost (Some ends.NoMemory) = tt

no_reads : (s : StreamState) → s ≡ after_reads s 0 []
no_reads s =
    let count : s.reads ≡ s.reads + 0 = omega arith in
    ap₂ (λ (n : ℕ) (g : List ℕ). record s { reads = n; given = g }) count (sym (append-nil s.given))

more_reads : (s : StreamState) (n k : ℕ) (xs ys : List ℕ) → after_reads (after_reads s n xs) k ys ≡ after_reads s (n + k) (xs ++ ys)
more_reads s n k xs ys =
    let count : (s.reads + n) + k ≡ s.reads + (n + k) = omega arith in
    ap₂ (λ (m : ℕ) (g : List ℕ). record s { reads = m; given = g }) count (append_assoc s.given xs ys)

-- none at all, at an end that counts nothing
pub reads_none : (end : Option EndCause) (s : StreamState) (left : Option (List ℕ)) (fed taken : List ℕ) → reader_at end (after_reads s 0 []) ≡ after_reads s 0 [] → taken ≡ fed → IsRead end s s left left fed taken
reads_none end s left fed taken counts same = record { reads = 0; more = []; lost = []; state = no_reads s ∙ sym counts; consumes = consumes_none left; fed = same ∙ sym (append-nil fed); is_lost = none_lost end }

-- none at all, since the session had ended or the writer failed
pub reads_finished : (cause : EndCause) (sent : Sent) (end : Option EndCause) (s : StreamState) (left : Option (List ℕ)) (fed taken : List ℕ) → end ≡ Some (end_of cause sent) → reader_at (Some cause) (after_reads s 0 []) ≡ after_reads s 0 [] → taken ≡ fed → IsRead end s s left left fed taken
reads_finished cause (sents.All n) end s left fed taken is counts same = subst (λ (e : Option EndCause). IsRead e s s left left fed taken) (sym is) (reads_none (Some cause) s left fed taken counts same)
reads_finished cause (sents.Fault n) end s left fed taken is counts same = subst (λ (e : Option EndCause). IsRead e s s left left fed taken) (sym is) (reads_none (Some ends.WriteFault) s left fed taken refl same)

pub read_then : {end : Option EndCause} {a b c : StreamState} {l m n : Option (List ℕ)} {f g h : List ℕ} → IsRead None a b l m f g → IsRead end b c m n g h → IsRead end a c l n f h
read_then {end} {a} {b} {c} {l} {m} {n} {f} {g} {h} x y =
    let kept : x.more ++ x.lost ≡ x.more = ap (λ (q : List ℕ). x.more ++ q) x.is_lost ∙ append-nil x.more in
    let first : b ≡ after_reads a x.reads x.more = x.state ∙ ap (λ (q : List ℕ). after_reads a x.reads q) kept in
    let joined : x.more ++ (y.more ++ y.lost) ≡ (x.more ++ y.more) ++ y.lost = sym (append_assoc x.more y.more y.lost) in
    record {
      reads = x.reads + y.reads;
      more = x.more ++ y.more;
      lost = y.lost;
      state = y.state ∙ ap (λ (s : StreamState). reader_at end (after_reads s y.reads (y.more ++ y.lost))) first ∙ ap (λ (s : StreamState). reader_at end s) (more_reads a x.reads y.reads x.more (y.more ++ y.lost) ∙ ap (λ (q : List ℕ). after_reads a (x.reads + y.reads) q) joined);
      consumes = subst (λ (q : List ℕ). Consumes l n q) joined (consumes_then l m n x.more (y.more ++ y.lost) (subst (λ (q : List ℕ). Consumes l m q) kept x.consumes) y.consumes);
      fed = y.fed ∙ ap (λ (q : List ℕ). q ++ y.more) x.fed ∙ append_assoc f x.more y.more;
      is_lost = y.is_lost;
    }

-- a reader that can count still can
pub can_still_read : {a b : StreamState} {l m : Option (List ℕ)} {f g : List ℕ} → IsRead None a b l m f g → CanCount a → CanCount b
can_still_read {a} x can = subst CanCount (sym x.state) (record { failures = can.failures; quiets = can.quiets; ends = can.ends })

-- ---- writers

no_writes : (s : StreamState) → s ≡ record s { taken = s.taken ++ [] }
no_writes s = ap (λ (q : List ℕ). record s { taken = q }) (sym (append-nil s.taken))

-- none at all, at an end that counts nothing
pub writes_none : (end : Option EndCause) (s : StreamState) (had : Option (List ℕ)) (sent all : List ℕ) → writer_at end (record s { taken = s.taken ++ [] }) ≡ record s { taken = s.taken ++ [] } → all ≡ sent → IsWritten end s s had had sent all []
writes_none end s had sent all counts same = record { state = no_writes s ∙ sym counts; appends = appends_none had; sent = same ∙ sym (append-nil sent) }

pub written_then : {end : Option EndCause} {a b c : StreamState} {l m n : Option (List ℕ)} {f g h : List ℕ} {out more : List ℕ} → IsWritten None a b l m f g out → IsWritten end b c m n g h more → IsWritten end a c l n f h (out ++ more)
written_then {end} {a} {b} {c} {l} {m} {n} {f} {g} {h} {out} {more} x y = record {
  state = y.state ∙ ap (λ (s : StreamState). writer_at end (record s { taken = s.taken ++ more })) x.state ∙ ap (λ (q : List ℕ). writer_at end (record a { taken = q })) (append_assoc a.taken out more);
  appends = appends_then l m n out more x.appends y.appends;
  sent = y.sent ∙ ap (λ (q : List ℕ). q ++ more) x.sent ∙ append_assoc f out more;
}

-- a writer that can count still can
pub can_still_write : {a b : StreamState} {l m : Option (List ℕ)} {f g out : List ℕ} → IsWritten None a b l m f g out → CanCount a → CanCount b
can_still_write {a} x can = subst CanCount (sym x.state) (record { failures = can.failures; quiets = can.quiets; ends = can.ends })

-- the bytes that went out are counted
pub sum_saturates : (a b : List ℕ) (n k m : ℕ) → n ≡ min (length a) (2 ^ 64 - 1) → k ≡ length b → m ≡ min (n + k) (2 ^ 64 - 1) → m ≡ min (length (a ++ b)) (2 ^ 64 - 1)
sum_saturates a b n k m x y z = omega (arith, x, y, z, length-append a b)
