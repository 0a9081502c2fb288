-- The answers for the edges of a record.
use Rattle.std.proofs.Common.{◌≡◌, ℕ, ◌+◌, ◌<◌, List, [], ◌∷◌, ◌++◌, map, take, length, get_or, sym, ap, ◌∙◌}
use Rattle.std.specs.Prelude.{Result, Ok, Err, OnOk}
use Rattle.std.proofs.lemmas.List.{map-append, take_more}
use Rattle.item_ids.specs.declared.key.Key.{Key}
use Rattle.result_bytes.specs.declared.value.Value.{Value}
use Rattle.recorder.specs.Backed.{ReadValue, keys}
use Rattle.sessions.specs.Sessions.{RecordValue, SessionValue, IsSession, entry_of}
use Rattle.sessions.proofs.EntryRules.{key_of_place, entry_here}
use Rattle.audit_replay.specs.Reruns.{AddsEdge}

-- one more read of the key of one more edge
pub keys_more : (key : ℕ → Key) (es : List ℕ) (i e : ℕ) (done now : List ReadValue) (t : ReadValue) → i < length es → e ≡ get_or es i e → keys done ≡ map key (take i es)
    → now ≡ done ++ t ∷ [] → t.key ≡ key e → keys now ≡ map key (take (i + 1) es)
keys_more key es i e done now t lt is so_far added same =
    ap keys added ∙ (map-append (λ (x : ReadValue). x.key) done (t ∷ [])
    ∙ (ap (λ (ks : List Key). ks ++ t.key ∷ []) so_far
    ∙ (ap (λ (k : Key). map key (take i es) ++ k ∷ []) (same ∙ ap key is)
    ∙ (sym (map-append key (take i es) (get_or es i e ∷ [])) ∙ ap (map key) (sym (take_more es i e lt))))))

-- a record's key with its value
pub adds_edge : (s : SessionValue) → IsSession s → (edge : ℕ) → edge < length s.records → (recs : List RecordValue) → recs ≡ s.records → (x : RecordValue) → x ≡ get_or recs edge x
    → (old new : List ReadValue) (key : Key) (value : Value) → key ≡ x.key → value ≡ x.value → new ≡ old ++ record { key = key; value = value } ∷ [] → AddsEdge s edge old new
adds_edge s session edge lt recs all x is old new key value k v added =
    let here : x ≡ get_or s.records edge x = is ∙ ap (λ rs. get_or rs edge x) all in
    record {
      told = record { key = key; value = value };
      added = added;
      key = k ∙ sym (key_of_place s edge x lt (sym here));
      held = (entry_of s.records x, entry_here s session key edge x lt here (sym k), sym v);
    }

pub ok_implies : {A E : Type 0} (P Q : Type 0) (r : Result A E) → (P → Q) → OnOk r P → OnOk r Q
ok_implies P Q (Ok x) f h = f h
ok_implies P Q (Err e) f h = h
