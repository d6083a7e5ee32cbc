-- What holds of an answer where it is no error, and where it is one.
use Rattle.cap_replay.proofs.Prelude.{◌≡◌, ◌⊎◌, inl, inr, ℕ, ◌<◌, arith, refl, Result, Ok, Err, IsOk, OnOk, IfErr, StreamState, CanCount, ConfigFault, Stop, BadLine, Config, NoMemory, Input, Output, IsRefused, IsOfScript, MayWrite, CountsReads, GivesNoEnd, misses, input_failures, output_failures}

pub on_ok : {X E : Type 0} {P Q : Type 0} → (r : Result X E) → OnOk r P → (P → Q) → OnOk r Q
on_ok (Ok x) p f = f p
on_ok (Err e) p f = tt

pub on_ok_twice : {X E : Type 0} {P Q R : Type 0} → (r : Result X E) → OnOk r P → OnOk r Q → (P → Q → R) → OnOk r R
on_ok_twice (Ok x) p q f = f p q
on_ok_twice (Err e) p q f = tt

pub from_ok : {X E : Type 0} {P : Type 0} → (r : Result X E) → IsOk r → OnOk r P → P
from_ok (Ok x) is p = p
from_ok (Err e) is p = absurd cc

-- a refused script has a bad line or settings with a fault
pub by_refusal : {X A : Type 0} → (r : Result X Stop) → IsRefused r → ((n : ℕ) → r ≡ Err (BadLine n) → A) → ((fault : ConfigFault) → r ≡ Err (Config fault) → A) → A
by_refusal (Ok x) refused f g = absurd refused
by_refusal (Err (BadLine n)) refused f g = f n refl
by_refusal (Err (Config fault)) refused f g = g fault refl
by_refusal (Err NoMemory) refused f g = absurd refused
by_refusal (Err Input) refused f g = absurd refused
by_refusal (Err Output) refused f g = absurd refused

-- a stop that no stream has caused counts nothing of the streams
pub reads_of_script : {X : Type 0} → (r : Result X Stop) (old new : StreamState) → IfErr r IsOfScript → misses new ≡ misses old → CountsReads r old new
reads_of_script (Ok x) old new is same = same
reads_of_script (Err (BadLine n)) old new is same = same
reads_of_script (Err (Config fault)) old new is same = same
reads_of_script (Err NoMemory) old new is same = same
reads_of_script (Err Input) old new is same = absurd is
reads_of_script (Err Output) old new is same = absurd is

pub writes_of_script : {X : Type 0} → (r : Result X Stop) (s : StreamState) → IfErr r IsOfScript → CanCount s → MayWrite r s
writes_of_script (Ok x) s is may = may
writes_of_script (Err (BadLine n)) s is may = may
writes_of_script (Err (Config fault)) s is may = may
writes_of_script (Err NoMemory) s is may = may
writes_of_script (Err Input) s is may = absurd is
writes_of_script (Err Output) s is may = absurd is

-- where the reader has failed or was quiet, that is why the script stopped; and else reads gave no end
pub input_stopped : {X : Type 0} → (r : Result X Stop) (old new : StreamState) → CountsReads r old new → misses old < misses new → input_failures r ≡ 1
input_stopped (Err Input) old new counts more = refl
input_stopped (Ok x) old new counts more = absurd (omega (arith, counts, more))
input_stopped (Err (BadLine n)) old new counts more = absurd (omega (arith, counts, more))
input_stopped (Err (Config fault)) old new counts more = absurd (omega (arith, counts, more))
input_stopped (Err NoMemory) old new counts more = absurd (omega (arith, counts, more))
input_stopped (Err Output) old new counts more = absurd (omega (arith, counts, more))

pub stopped_input : {X : Type 0} → (r : Result X Stop) (old new : StreamState) → CountsReads r old new → (input_failures r ≡ 0) ⊎ ((misses old < misses new) ⊎ GivesNoEnd old new)
stopped_input (Err Input) old new counts = inr counts
stopped_input (Ok x) old new counts = inl refl
stopped_input (Err (BadLine n)) old new counts = inl refl
stopped_input (Err (Config fault)) old new counts = inl refl
stopped_input (Err NoMemory) old new counts = inl refl
stopped_input (Err Output) old new counts = inl refl

pub output_of_script : {X : Type 0} → (r : Result X Stop) → IfErr r IsOfScript → output_failures r ≡ 0
output_of_script (Ok x) is = refl
output_of_script (Err (BadLine n)) is = refl
output_of_script (Err (Config fault)) is = refl
output_of_script (Err NoMemory) is = refl
output_of_script (Err Input) is = absurd is
output_of_script (Err Output) is = absurd is

-- the same counts may still rise
pub still_counts : (old new : StreamState) → CanCount old → new.failures ≡ old.failures → new.quiets ≡ old.quiets → new.ends ≡ old.ends → CanCount new
still_counts old new may failures quiets ends = record { failures = omega (arith, may.failures, failures); quiets = omega (arith, may.quiets, quiets); ends = omega (arith, may.ends, ends) }
