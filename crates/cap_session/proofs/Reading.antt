-- What is read of a stream.
use Rattle.cap_session.proofs.Prelude.{◌≡◌, ℕ, List, [], ◌∷◌, ◌++◌, Bool, true, false, Option, None, Result, Ok, Err, is_err, IfOk, IsErrOf, OnOk, ◌↔◌, All-nil, All-cons, All-append, arith, rules, refl, ap, sym, ◌∙◌, subst, append_assoc, append-nil, append_cancel_left, map-append, Filled, resources, Request, rest, one_reading, FrameFault, BadLength, History, IsReading, IsAtRest, IsAtFault, after_gift, Bad, NoMemory, IsRequest, IsNoRequest, Head, first_open, ReadResult, PayloadLog, IsReadFrom, IsOpened, OpenRequest, open_payloads, open_requests, IsRead, ReadsAhead}
use Rattle.cap_frames.specs.declared.fault.FrameFault.TheVariants as frame_faults

-- of a stream of which nothing came
pub nothing_read : IsReading (record { fed = []; given = []; is_spent = false })
nothing_read = ([], rest [], record { whole = refl; each = search rules; ends = record { length_good = λ l. absurd (omega (arith, l)); short = λ l. absurd (omega (arith, l)) }; fits = search rules })

read_from : (payload : List ℕ) (read : ReadResult) → IfOk read (λ x. IsRequest payload x.0 x.1) → (read ≡ Err Bad → IsNoRequest resources payload) → IsReadFrom payload read
read_from payload (Ok x) found bad = found
read_from payload (Err Bad) found bad = bad refl
read_from payload (Err NoMemory) found bad = tt

-- what was read from the payload of a frame
pub opens : (p : Filled) (bytes : List ℕ) (read : ReadResult) (none opened : PayloadLog) → bytes ≡ p.items → IfOk read (λ x. IsRequest bytes x.0 x.1) → (read ≡ Err Bad → IsNoRequest resources bytes) → none ≡ [] → opened ≡ none ++ (p, read) ∷ [] → (opened ≡ (p, read) ∷ []) × IsReadFrom p.items read
opens p bytes read none opened same found bad empty is = (is ∙ ap (λ (x : PayloadLog). x ++ (p, read) ∷ []) empty, subst (λ (x : List ℕ). IsReadFrom x read) same (read_from bytes read found bad))

-- a request was
pub opens_request : (p : Filled) (read : ReadResult) (opened : PayloadLog) (head : Head) (request : Request resources) → (opened ≡ (p, read) ∷ []) × IsReadFrom p.items read → read ≡ Ok (head, request) → IsOpened opened (Ok (head, request))
opens_request p read opened head request (one, reads) is = record { payload = p; one = one ∙ ap (λ (r : ReadResult). (p, r) ∷ []) is; reads = subst (λ (r : ReadResult). IsReadFrom p.items r) is reads }

pub opened_is : (p : Filled) (read : ReadResult) (opened : PayloadLog) (head : Head) (request : Request resources) (o : OpenRequest) → (opened ≡ (p, read) ∷ []) × IsReadFrom p.items read → read ≡ Ok (head, request) → o ≡ first_open opened → (o.payload ≡ p.items) × (o.request ≡ request) × IsRead o
opened_is p read opened head request o (one, reads) is same =
    let now : o ≡ record { payload = p.items; head = head; request = request } = same ∙ ap first_open (one ∙ ap (λ (r : ReadResult). (p, r) ∷ []) is) in
    (ap (λ (x : OpenRequest). x.payload) now, ap (λ (x : OpenRequest). x.request) now, subst IsRead (sym now) (subst (λ (r : ReadResult). IsReadFrom p.items r) is reads))

-- the payload that was seen to come is the one that is given
pub same_payload : (h k : History) (seen given : List ℕ) → IsReading (after_gift h seen) → IsReading k → k ≡ after_gift h given → seen ≡ given
same_payload h k seen given comes reading is =
    let now = subst IsReading is reading in
    let same : (h.given ++ seen ∷ []) ++ comes.0 ≡ (h.given ++ given ∷ []) ++ now.0 = (one_reading h.fed ((h.given ++ seen ∷ []) ++ comes.0) ((h.given ++ given ∷ []) ++ now.0) comes.1 now.1 comes.2 now.2).0 in
    let last : seen ∷ comes.0 ≡ given ∷ now.0 = append_cancel_left h.given (seen ∷ comes.0) (given ∷ now.0) (sym (append_assoc h.given (seen ∷ []) comes.0) ∙ same ∙ append_assoc h.given (given ∷ []) now.0) in
    cc last

-- ---- what a framer is at that gives nothing

pub at_rest : (spent : Bool) (h : History) (r : Result (Option Filled) FrameFault) → h.is_spent ≡ spent → r ≡ Ok None → (h.is_spent ≡ false → (IsAtRest h ↔ (r ≡ Ok None))) → (h.is_spent ≡ true → IsErrOf r frame_faults.NoMemory) → IsAtRest h
at_rest true h r is over found again = let other = again is in absurd cc
at_rest false h r is over found again = (found is).1 over

pub at_fault : (spent : Bool) (h : History) (r : Result (Option Filled) FrameFault) → h.is_spent ≡ spent → r ≡ Err BadLength → (h.is_spent ≡ false → (IsAtFault h ↔ IsErrOf r BadLength)) → (h.is_spent ≡ true → IsErrOf r frame_faults.NoMemory) → IsAtFault h
at_fault true h r is bad found again = let other = again is in absurd cc
at_fault false h r is bad found again = (found is).1 cc

-- ---- what is read ahead

pub reads_none : (h : History) (asked : List OpenRequest) (requests : List (Request resources)) → ReadsAhead h h asked asked requests requests
reads_none h asked requests = record { more = []; asked = sym (append-nil asked); requests = sym (append-nil requests); read = All-nil IsRead; fed = refl; given = sym (append-nil h.given) }

pub reads_more : {h k : History} {old was : List OpenRequest} {had has : List (Request resources)} (m : History) (o : OpenRequest) (now : List OpenRequest) (have : List (Request resources)) → ReadsAhead h k old was had has → m ≡ after_gift k o.payload → IsRead o → now ≡ was ++ o ∷ [] → have ≡ has ++ o.request ∷ [] → ReadsAhead h m old now had have
reads_more {h} {k} {old} {was} {had} {has} m o now have r gift is added requested = record {
  more = r.more ++ o ∷ [];
  asked = added ∙ ap (λ (x : List OpenRequest). x ++ o ∷ []) r.asked ∙ append_assoc old r.more (o ∷ []);
  requests = requested ∙ ap (λ (x : List (Request resources)). x ++ o.request ∷ []) r.requests ∙ append_assoc had (open_requests r.more) (o.request ∷ []) ∙ ap (λ (x : List (Request resources)). had ++ x) (sym (map-append (λ (x : OpenRequest). x.request) r.more (o ∷ [])));
  read = All-append IsRead r.more (o ∷ []) r.read (All-cons IsRead o [] is (All-nil IsRead));
  fed = ap (λ (x : History). x.fed) gift ∙ r.fed;
  given = ap (λ (x : History). x.given) gift ∙ ap (λ (x : List (List ℕ)). x ++ o.payload ∷ []) r.given ∙ append_assoc h.given (open_payloads r.more) (o.payload ∷ [])
      ∙ ap (λ (x : List (List ℕ)). h.given ++ x) (sym (map-append (λ (x : OpenRequest). x.payload) r.more (o ∷ [])));
}

-- what was promised where memory was found
pub has_room : {E P : Type 0} (r : Result (Unit {0}) E) → false ≡ is_err r → OnOk r P → P
has_room (Ok u) found room = room
has_room (Err e) found room = absurd (cc found)
