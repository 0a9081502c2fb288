-- What a run reads beside the edges of its record.
use Rattle.std.proofs.Common.{◌≡◌, ◌≢◌, ◌⊎◌, inl, inr, ℕ, suc, zero, ◌+◌, ◌<◌, ◌≤◌, List, [], ◌∷◌, ◌++◌, take, length, slice_get, Option, Some, None, sym, ap, ◌∙◌, subst, arith}
use Rattle.std.specs.Prelude.{Contains, IfSome, option_and_then}
use Rattle.std.specs.List.{AllByRecursion}
use Rattle.std.proofs.lemmas.List.{length-map, take_all, take-map}
use Rattle.std.proofs.lemmas.Option.{slice_get_within, none-some, same_Some}
use Rattle.profiles.specs.declared.profile.Profile.{Profile}
use Rattle.item_ids.specs.declared.key.Key.{Key}
use Rattle.item_ids.proofs.Lists.{all_map}
use Rattle.result_bytes.specs.declared.value.Value.{Value}
use Rattle.recorder.specs.Backed.{Meaning, ReadLists, Queries, ReadValue, keys, Asked, IsNext, Backed, BeginsWith}
use Rattle.recorder.specs.Runs.{OutcomeValue, IsOutcome}
use Rattle.recorder.specs.Recording.{IsUnread, IsForMemory, IsByReader}
use Rattle.recorder.specs.declared.reader.ReadFault.TheVariants.{OutOfMemory, NotHeld}
use Rattle.recorder.specs.declared.refused.Refused.{Refused}
use Rattle.recorder.proofs.Recorded.{all_at}
use Rattle.sessions.specs.Sessions.{Entry, RecordValue}
use Rattle.graph_rules.specs.Pasts.{Past}
use Rattle.audit_graph.specs.Greens.{keys_at}
use Rattle.audit_graph.specs.Replays.{IsHeld, FollowsFromEdges}
use Rattle.audit_replay.specs.Reruns.{AreFirstEdges, ReadsOther, LeavesEdges, HasOtherResult, AreFirstKeys, IsFirstOther}
use Rattle.audit_replay.proofs.Lists.{take_there, all_take}

-- ---- a walk over the reads

pub beginning_more : (told all : List Key) (i : ℕ) (k : Key) → slice_get told i ≡ Some k → slice_get all i ≡ Some k → take i told ≡ take i all → (i + 1 ≤ length all) × (take (i + 1) told ≡ take (i + 1) all)
beginning_more told all i k t a same =
    let lt = slice_get_within all i k a in
    (omega (arith, lt), take_there told i k t ∙ (ap (λ ks. ks ++ k ∷ []) same ∙ sym (take_there all i k a)))

pub beginning_all : (told all : List Key) (i : ℕ) → length told ≤ i → i ≤ length told → i ≤ length all → take i told ≡ take i all → AreFirstKeys told all
beginning_all told all i up down within same =
    let e : i ≡ length told = omega arith in
    (omega (arith, within, up), sym (take_all i told up) ∙ (same ∙ ap (λ n. take n all) e))

-- what was compared, by what was read
pub other_in : (told read : List ReadValue) (edges es : List ℕ) (records : List RecordValue) (i : ℕ) → read ≡ told → es ≡ edges
    → IsFirstOther (keys read) (keys_at records es) i → IsFirstOther (keys told) (keys_at records edges) i
other_in told read edges es records i a b h =
    subst (λ (xs : List ℕ). IsFirstOther (keys told) (keys_at records xs) i) b (subst (λ (xs : List ReadValue). IsFirstOther (keys xs) (keys_at records es) i) a h)

pub begins_in : (told read : List ReadValue) (edges es : List ℕ) (records : List RecordValue) → read ≡ told → es ≡ edges
    → AreFirstKeys (keys read) (keys_at records es) → AreFirstKeys (keys told) (keys_at records edges)
begins_in told read edges es records a b h =
    subst (λ (xs : List ℕ). AreFirstKeys (keys told) (keys_at records xs)) b (subst (λ (xs : List ReadValue). AreFirstKeys (keys xs) (keys_at records es)) a h)

-- ---- the outcome of a run

-- what follows in a profile from what a run read
pub backed_in : (queries : Queries) (o : OutcomeValue) (profile : Profile) (key : Key) (told : List ReadValue) → o.profile ≡ profile → o.key ≡ key → o.told ≡ told
    → IsOutcome (queries.mean o.profile) (queries.reads o.profile) o → Backed (queries.mean profile) (queries.reads profile) key told o.value
backed_in queries o profile key told in_profile of_key as_told outcome =
    subst (λ (ts : List ReadValue). Backed (queries.mean profile) (queries.reads profile) key ts o.value) as_told
    (subst (λ (k : Key). Backed (queries.mean profile) (queries.reads profile) k o.told o.value) of_key
    (subst (λ (x : Profile). Backed (queries.mean x) (queries.reads x) o.key o.told o.value) in_profile outcome.backed))

-- ---- refused reads

pub refused_unread : (script : List ReadValue) (refused : Option Refused) (k : Key) → option_and_then (λ (x : Refused). x.key) refused ≡ Some k
    → IfSome refused (λ r. IsForMemory r ⊎ ((q : Key) × IsByReader (λ q f. (f ≡ OutOfMemory) ⊎ ((f ≡ NotHeld) × IsUnread q script)) q r)) → IsUnread k script
refused_unread script None k e h = absurd (none-some k e)
refused_unread script (Some r) k e (inl m) = absurd (none-some k (sym m.1 ∙ e))
refused_unread script (Some r) k e (inr b) = elim b.1.2 [
  | inl o ↦ absurd (b.1.1 o)
  | inr n ↦ subst (λ q. IsUnread q script) (same_Some b.0 k (sym b.1.0 ∙ e)) n.1
]

pub at_some : (P : Key → Type 0) (o : Option Key) (k : Key) → o ≡ Some k → IfSome o P → P k
at_some P o k e h = subst (λ x. IfSome x P) e h

-- ---- what is given for the edges

-- the recorder's answers are those that the session holds
pub told_held : (now : Past) (script told : List ReadValue) → AllByRecursion (IsHeld now) script → AllByRecursion (λ t. Contains script (record { key = t.key; value = t.value })) told → AllByRecursion (IsHeld now) told
told_held now script told held answers = all_map (λ t. Contains script (record { key = t.key; value = t.value })) (IsHeld now) (λ t c. all_at (IsHeld now) script (record { key = t.key; value = t.value }) c held) told answers

module _ (mean : Meaning) (reads : ReadLists) (now : Past) (r : Entry) (told : List ReadValue) (held : AllByRecursion (IsHeld now) told) where
  front_edges : (i : ℕ) → i ≤ length r.reads → take i (keys told) ≡ take i r.reads → AreFirstEdges now r i (take i told)
  front_edges i within same = record {
    within = within;
    edges = sym (take-map (λ (t : ReadValue). t.key) i told) ∙ same;
    held = all_take (IsHeld now) i told held;
  }

  keys_next : (i : ℕ) (k : Key) → slice_get (keys told) i ≡ Some k → keys (take (suc i) told) ≡ keys (take i told) ++ k ∷ []
  keys_next i k here =
      let e : suc i ≡ i + 1 = omega arith in
      ap (λ n. keys (take n told)) e
      ∙ (sym (take-map (λ (t : ReadValue). t.key) (i + 1) told) ∙ (take_there (keys told) i k here
      ∙ ap (λ ks. ks ++ k ∷ []) (take-map (λ (t : ReadValue). t.key) i told)))

  -- a read is another key than the edge at its place
  pub reads_other : (i : ℕ) → IsFirstOther (keys told) r.reads i → Asked mean reads r.key told → ReadsOther mean reads now r i
  reads_other i f asked =
      let inside = slice_get_within (keys told) i f.key f.here in
      let lt : i < length told = omega (arith, inside, length-map told (λ (t : ReadValue). t.key)) in
      record {
        told = take i told;
        first = front_edges i f.within f.before;
        key = f.key;
        next = λ p g. subst (λ ks. BeginsWith ks (reads p r.key)) (keys_next i f.key f.here) (asked i lt p g);
        other = f.other;
      }

  begun : AreFirstKeys (keys told) r.reads → keys told ≡ take (length told) r.reads
  begun b = b.1 ∙ ap (λ n. take n r.reads) (length-map told (λ (t : ReadValue). t.key))

  begun_edges : AreFirstKeys (keys told) r.reads → AreFirstEdges now r (length told) told
  begun_edges b = record { within = omega (arith, b.0, length-map told (λ (t : ReadValue). t.key)); edges = begun b; held = held }

  -- the read that is refused is none of the edges
  pub reads_more : AreFirstKeys (keys told) r.reads → (script : List ReadValue) → keys script ≡ r.reads → (k : Key) → IsUnread k script → IsNext mean reads r.key told k → ReadsOther mean reads now r (length told)
  reads_more b script edges k unread next = record {
    told = told;
    first = begun_edges b;
    key = k;
    next = next;
    other = λ here. not_there script (length told) unread (ap (λ ks. slice_get ks (length told)) edges ∙ here);
  }
    where
      not_there : (ts : List ReadValue) (i : ℕ) → IsUnread k ts → slice_get (keys ts) i ≡ Some k → ⊥
      not_there [] i u h = none-some k h
      not_there (t ∷ ts) zero u h = u.0 (same_Some t.key k h)
      not_there (t ∷ ts) (suc i) u h = not_there ts i u.1 h

  -- fewer reads than edges
  pub leaves_edges : AreFirstKeys (keys told) r.reads → length told < length r.reads → (v : Value) → Backed mean reads r.key told v → LeavesEdges mean reads now r
  leaves_edges b few v backed = record {
    count = length told;
    few = few;
    told = told;
    first = begun_edges b;
    whole = backed.whole;
  }

  all_edges : AreFirstKeys (keys told) r.reads → length r.reads ≤ length told → keys told ≡ r.reads
  all_edges b many = begun b ∙ take_all (length told) r.reads many

  pub other_result : AreFirstKeys (keys told) r.reads → length r.reads ≤ length told → (v : Value) → Backed mean reads r.key told v → (v ≢ r.value) → HasOtherResult mean reads now r
  other_result b many v backed other = record {
    told = told;
    edges = record { edges = all_edges b many; held = held };
    value = v;
    backed = backed;
    other = other;
  }

  pub follows : AreFirstKeys (keys told) r.reads → length r.reads ≤ length told → (v : Value) → Backed mean reads r.key told v → v ≡ r.value → FollowsFromEdges mean reads now r
  follows b many v backed same = record {
    told = told;
    edges = all_edges b many;
    held = held;
    backed = subst (Backed mean reads r.key told) same backed;
  }
