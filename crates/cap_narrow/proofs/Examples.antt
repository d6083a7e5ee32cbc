-- The clusters of the worked examples, written out, and lines that guarantee GPUs.
use Rattle.cap_narrow.proofs.Prelude.{◌≡◌, ℕ, List, [], ◌∷◌, true, refl, sym, ◌∙◌, ap, Some, None, codes, plus, less, Settings, Flat, sight_of, choice_from, after_grant, mb_and_vcores, key, ask_anywhere, two_queues, container, after_grants, one_asked, narrow, mb_vcores_and_gpus, queues_with_gpus, asked_without_gpus, OneGrantWithoutGpus, lines_with_gpus, GuaranteesRaiseNone}
use Rattle.cap_narrow.proofs.Gpus.{texts_without_least_gpus}

-- one node, and two applications, of which the first asks
abbrev asking : {K : ℕ} → Settings → List ℕ → List ℕ → Flat K
asking settings total asked = record {
  settings = settings;
  apps = record {
    active =
        record {
          number = 1;
          leaf = codes "root.a";
          user = codes "u1";
          registered = true;
          response = 1;
          kept = Some (record { response = 1; ignored = 0; grants = []; ends = [] });
          asks = ask_anywhere (key 1 0) 1 asked ∷ [];
          grants = [];
          ends = [];
        }
        ∷ record { number = 2; leaf = codes "root.b"; user = codes "u2"; registered = true; response = 0; kept = None; asks = []; grants = []; ends = [] }
        ∷ [];
    next = 3;
  };
  nodes = record {
    present = record { number = 1; host = codes "n1"; rack = codes "/r1"; total = total; response = 0; kept = None } ∷ [];
    live = [];
    reserved = [];
    next_node = 2;
    next_container = 1;
  };
}

of_two : one_asked ≡ asking two_queues (mb_and_vcores 8192 8) (mb_and_vcores 1024 1)
unfolding plus less
of_two = refl

of_three : asked_without_gpus ≡ asking queues_with_gpus (mb_vcores_and_gpus 8192 8 0) (mb_vcores_and_gpus 1024 1 0)
unfolding plus less
of_three = refl

pub one_grant : OneGrantWithoutGpus
unfolding plus less
one_grant =
    let first : Flat 3 = asking queues_with_gpus (mb_vcores_and_gpus 8192 8 0) (mb_vcores_and_gpus 1024 1 0) in
    let second : Flat 2 = asking two_queues (mb_and_vcores 8192 8) (mb_and_vcores 1024 1) in
    let grant = container 1 1 (key 1 0) 1 (mb_vcores_and_gpus 1024 1 0) in
    let same : narrow first ≡ second = refl in
    let granted : narrow (after_grant first grant) ≡ after_grants 1 1 (key 1 0) 1 (mb_and_vcores 1024 1) second = refl in (
      ap narrow of_three ∙ same ∙ sym of_two,
      ap (λ (c : Flat 3). choice_from (sight_of c) 0) of_three,
      ap (λ (c : Flat 2). choice_from (sight_of c) 0) of_two,
      ap (λ (c : Flat 3). narrow (after_grant c grant)) of_three ∙ granted ∙ ap (after_grants 1 1 (key 1 0) 1 (mb_and_vcores 1024 1)) (sym of_two),
    )

pub guarantees_raise_none : GuaranteesRaiseNone
guarantees_raise_none = (refl, texts_without_least_gpus lines_with_gpus refl)
