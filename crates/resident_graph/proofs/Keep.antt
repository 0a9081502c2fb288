-- What a graph keeps while places are queued, get other edges and take values.
use Rattle.std.proofs.Common.{◌≡◌, ◌≢◌, ◌⊎◌, inl, inr, ℕ, ◌<◌, Bool, true, false, List, [], length, set, Contains, Vec, Some, refl, sym, ap, ◌∙◌, subst, arith, length-set}
use Rattle.std.specs.List.{AllByRecursion}
use Rattle.std.specs.Arc.{arc_value}
use Rattle.std.proofs.lemmas.Bool.{cases_eq}
use Rattle.std.specs.declared.alloc.Global.{Global}
use Rattle.std.specs.declared.sync.Arc.{Arc}
use Rattle.item_ids.specs.declared.key.Key.{Key}
use Rattle.item_ids.specs.Inputs.{rank}
use Rattle.item_ids.proofs.Lists.{all_from}
use Rattle.result_bytes.specs.declared.value.Value.{Value}
use Rattle.result_bytes.specs.Values.{IsOfKind}
use Rattle.recorder.specs.Projects.{Project}
use Rattle.recorder.specs.Backed.{ReadValue}
use Rattle.recorder.specs.Programs.{Prog}
use Rattle.recorder.proofs.Recorded.{all_at}
use Rattle.graph_rules.specs.Keys.{input_of}
use Rattle.keeping.specs.Follows.{Follows}
use Rattle.keeping.specs.Kept.{KeptBy}
use Rattle.keeping.specs.Readers.{told_at}
use Rattle.resident_graph.specs.Places.{Places, IsEdge, IsSettled, IsNode}
use Rattle.resident_graph.specs.Lists.{key_in, value_in, list_in, flag_in, WidensBut, AreNoFewer, IsQueue, AreLinked}
use Rattle.resident_graph.specs.Runs.{IsValueOf}
use Rattle.resident_graph.specs.Graphs.{places_in, AreAligned, Keeps}
use Rattle.resident_graph.proofs.Changes.{Changes, holds_changed}
use Rattle.resident_graph.proofs.Lists.{value_here, value_there, flag_here, flag_there}
use Rattle.resident_graph.proofs.Results.{lower_places, told_found}

differs : true ≡ false → ⊥
differs e = cc

-- what isn't queued now wasn't
pub no_fewer : (old new : List Bool) → AreNoFewer old new → (i : ℕ) → flag_in new i ≡ false → flag_in old i ≡ false
no_fewer old new more i off = go (flag_in old i) refl
  where
    go : (b : Bool) → flag_in old i ≡ b → flag_in old i ≡ false
    go false e = e
    go true e = absurd (differs (sym (more i e) ∙ off))

-- what reads a place is queued or kept when its value changes, if the value isn't the old one
abbrev pub AreAnnounced : (Key → Prog) → List Key → List (Arc Value Global) → List (Vec ℕ Global) → List Bool → ℕ → Value → Type 0
AreAnnounced prog_of ks vs rs us at v =
    (v ≡ value_in vs at)
    ⊎ ((i : ℕ) → Contains (list_in rs at) i → i < length ks → (flag_in us i ≡ true) ⊎ KeptBy (prog_of (key_in ks i)) (key_in ks at) (value_in vs at) v (value_in vs i))

module _ (prog_of : Key → Prog) (p : Project) (ks : List Key) (vs : List (Arc Value Global)) (es rs : List (Vec ℕ Global)) (qs : List Bool) (line : List (Vec ℕ Global))
    (keeps : Keeps prog_of p ks vs es rs qs line) where
  -- a project with other inputs, whose places are queued
  pub keeps_in : (r : Project) → ((i : ℕ) → i < length ks → rank (key_in ks i) ≡ 0 → flag_in qs i ≡ false → input_of r (key_in ks i) ≡ input_of p (key_in ks i))
      → Keeps prog_of r ks vs es rs qs line
  keeps_in r inputs = record {
    aligned = keeps.aligned;
    queue = keeps.queue;
    holds = record {
      apart = keeps.holds.apart;
      each = λ i lt. let is = keeps.holds.each i lt in record {
        kind = is.kind;
        linked = is.linked;
        input = λ low rest. inputs i lt low rest ∙ is.input low rest;
        settled = is.settled;
      };
    };
  }

  -- a project that has the values of the inputs that aren't queued
  pub keeps_fresh : (r : Project) → ((i : ℕ) → i < length ks → rank (key_in ks i) ≡ 0 → flag_in qs i ≡ false → input_of r (key_in ks i) ≡ Some (value_in vs i))
      → Keeps prog_of r ks vs es rs qs line
  keeps_fresh r fresh = keeps_in r (λ i lt low off. fresh i lt low off ∙ sym ((keeps.holds.each i lt).input low off))

  -- more places are queued
  pub keeps_more : (us : List Bool) (new : List (Vec ℕ Global)) → length us ≡ length qs → AreNoFewer qs us → IsQueue ks us new → Keeps prog_of p ks vs es rs us new
  keeps_more us new same_flags more is_queue = record {
    aligned = record {
      values = keeps.aligned.values;
      edges = keeps.aligned.edges;
      readers = keeps.aligned.readers;
      queued = same_flags ∙ keeps.aligned.queued;
    };
    queue = is_queue;
    holds = holds_changed prog_of p _ _ (length ks) ch keeps.holds keeps.holds.apart (λ bad. absurd (omega (arith, bad)));
  }
    where
      ch : Changes prog_of (places_in ks vs es rs qs) (places_in ks vs es rs us) (length ks)
      ch = record {
        within = λ i lt ne. lt;
        grown = λ i lt. lt;
        key = λ i lt. refl;
        value = λ i lt ne. refl;
        edges = λ i lt ne. refl;
        readers = λ j i lt ne has. has;
        queued = λ i lt ne off. no_fewer qs us more i off;
        reading = λ i lt bad ne off has. absurd (omega (arith, bad));
      }

  -- A queued place gets other edges, or none.
  module _ (at : ℕ) (lt : at < length ks) (fs ss : List (Vec ℕ Global)) (us : List Bool) (new : List (Vec ℕ Global))
      (same_edges : length fs ≡ length es) (others : (i : ℕ) → i ≢ at → list_in fs i ≡ list_in es i)
      (same_readers : length ss ≡ length rs) (wider : WidensBut at rs ss)
      (same_flags : length us ≡ length qs) (more : AreNoFewer qs us) (is_queue : IsQueue ks us new) where
    aligned_now : AreAligned ks vs fs ss us
    aligned_now = record {
      values = keeps.aligned.values;
      edges = same_edges ∙ keeps.aligned.edges;
      readers = same_readers ∙ keeps.aligned.readers;
      queued = same_flags ∙ keeps.aligned.queued;
    }

    relinked_changes : Changes prog_of (places_in ks vs es rs qs) (places_in ks vs fs ss us) at
    relinked_changes = record {
      within = λ i li ne. li;
      grown = λ i li. li;
      key = λ i li. refl;
      value = λ i li ne. refl;
      edges = λ i li ne. others i ne;
      readers = λ j i lj ne has. wider j i ne has;
      queued = λ i li ne off. no_fewer qs us more i off;
      reading = λ i li la ne off has. inl refl;
    }

    pub unlinked : flag_in us at ≡ true → list_in fs at ≡ [] → Keeps prog_of p ks vs fs ss us new
    unlinked on none = record {
      aligned = aligned_now;
      queue = is_queue;
      holds = holds_changed prog_of p _ _ at relinked_changes keeps.holds keeps.holds.apart (λ _. here);
    }
      where
        nothing : (e : ℕ) → Contains [] e → ⊥
        nothing e has = let l = has.1 in omega (arith, l)

        here : IsNode prog_of p (places_in ks vs fs ss us) at
        here = record {
          kind = (keeps.holds.each at lt).kind;
          linked = λ e has. absurd (nothing e (subst (λ (xs : List ℕ). Contains xs e) none has));
          input = λ low off. absurd (differs (sym on ∙ off));
          settled = λ above off. absurd (differs (sym on ∙ off));
        }

    -- with a value
    abbrev taken_places : Arc Value Global → Places
    taken_places sealed = places_in ks (set vs at sealed) fs ss (set us at false)

    -- and takes a value
    pub taken : (sealed : Arc Value Global) (edges : Vec ℕ Global) → list_in fs at ≡ edges.items → AreLinked fs ss at
        → IsValueOf prog_of p ks vs (key_in ks at) (arc_value sealed) edges.items
        → AreAnnounced prog_of ks vs rs us at (arc_value sealed)
        → Keeps prog_of p ks (set vs at sealed) fs ss (set us at false) new
    taken sealed edges is_edges linked value announced = record {
      aligned = record {
        values = length-set vs at sealed ∙ keeps.aligned.values;
        edges = aligned_now.edges;
        readers = aligned_now.readers;
        queued = length-set us at false ∙ aligned_now.queued;
      };
      queue = still;
      holds = holds_changed prog_of p (places_in ks vs es rs qs) (taken_places sealed) at ch keeps.holds keeps.holds.apart (λ _. here);
    }
      where
        in_values : at < length vs
        in_values = let e = keeps.aligned.values in omega (arith, lt)

        in_flags : at < length us
        in_flags = let e = keeps.aligned.queued in omega (arith, lt, same_flags)

        flag_stays : (i : ℕ) → flag_in (set us at false) i ≡ true → flag_in us i ≡ true
        flag_stays i on = elim (cases_eq i at) [
          | inl same ↦ absurd (differs (sym on ∙ subst (λ (x : ℕ). flag_in (set us at false) x ≡ false) (sym same) (flag_here us at in_flags)))
          | inr other ↦ sym (flag_there us at i other) ∙ on
        ]

        still : IsQueue ks (set us at false) new
        still i on = is_queue i (flag_stays i on)

        reading : (i : ℕ) → i < length ks → i ≢ at → flag_in (set us at false) i ≡ false → Contains (list_in rs at) i
            → (value_in (set vs at sealed) at ≡ value_in vs at) ⊎ KeptBy (prog_of (key_in ks i)) (key_in ks at) (value_in vs at) (value_in (set vs at sealed) at) (value_in vs i)
        reading i li ne off has = elim announced [
          | inl same ↦ inl (value_here vs at sealed in_values ∙ same)
          | inr told ↦ elim (told i has li) [
            | inl on ↦ absurd (differs (sym on ∙ (sym (flag_there us at i ne) ∙ off)))
            | inr kept ↦ inr (subst (λ (v : Value). KeptBy (prog_of (key_in ks i)) (key_in ks at) (value_in vs at) v (value_in vs i)) (sym (value_here vs at sealed in_values)) kept)
          ]
        ]

        ch : Changes prog_of (places_in ks vs es rs qs) (taken_places sealed) at
        ch = record {
          within = λ i li ne. li;
          grown = λ i li. li;
          key = λ i li. refl;
          value = λ i li ne. value_there vs at sealed i ne;
          edges = λ i li ne. others i ne;
          readers = λ j i lj ne has. wider j i ne has;
          queued = λ i li ne off. no_fewer qs us more i (sym (flag_there us at i ne) ∙ off);
          reading = λ i li la ne off has. reading i li ne off has;
        }

        within : (e : ℕ) → Contains edges.items e → e < length ks
        within e has = all_at (λ x. x < length ks) edges.items e has value.inside

        low : 0 < rank (key_in ks at) → AllByRecursion (λ e. rank (key_in ks e) < rank (key_in ks at)) edges.items
        low above = lower_places ks (key_in ks at) edges.items (value.run above).told (value.run above).same (value.run above).lower

        lower_is_other : (e : ℕ) → rank (key_in ks e) < rank (key_in ks at) → e ≢ at
        lower_is_other e l same =
            let bad : rank (key_in ks at) < rank (key_in ks at) = subst (λ (x : ℕ). rank (key_in ks x) < rank (key_in ks at)) same l in omega arith

        told_is : (above : 0 < rank (key_in ks at)) → told_at (key_in ks) (value_in (set vs at sealed)) edges.items ≡ (value.run above).told
        told_is above = told_found ks vs (value_in (set vs at sealed)) (key_in ks at) keeps.holds.apart (λ e inside l. value_there vs at sealed e (lower_is_other e l))
            edges.items (value.run above).told (value.run above).same value.inside (low above) (value.run above).answers

        edge : 0 < rank (key_in ks at) → (e : ℕ) → Contains edges.items e → IsEdge (taken_places sealed) at e
        edge above e has = record {
          inside = within e has;
          lower = all_at (λ x. rank (key_in ks x) < rank (key_in ks at)) edges.items e has (low above);
        }

        settled : 0 < rank (key_in ks at) → IsSettled prog_of (taken_places sealed) at
        settled above = record {
          follows =
              subst (λ (v : Value). Follows (prog_of (key_in ks at)) (told_at (key_in ks) (value_in (set vs at sealed)) (list_in fs at)) v) (sym (value_here vs at sealed in_values))
              (subst (λ (xs : List ℕ). Follows (prog_of (key_in ks at)) (told_at (key_in ks) (value_in (set vs at sealed)) xs) (arc_value sealed)) (sym is_edges)
              (subst (λ (told : List ReadValue). Follows (prog_of (key_in ks at)) told (arc_value sealed)) (sym (told_is above)) (value.run above).follows));
          edges = subst (AllByRecursion (IsEdge (taken_places sealed) at)) (sym is_edges) (all_from (IsEdge (taken_places sealed) at) edges.items (edge above));
        }

        here_value : value_in (set vs at sealed) at ≡ arc_value sealed
        here_value = value_here vs at sealed in_values

        here : IsNode prog_of p (taken_places sealed) at
        here = record {
          kind = subst (IsOfKind (key_in ks at)) (sym here_value) value.kind;
          linked = λ e has. let inside = within e (subst (λ (xs : List ℕ). Contains xs e) is_edges has) in (inside, linked e (let l = aligned_now.readers in omega (arith, inside, l)) has);
          input = λ low off. value.input low ∙ ap (λ (v : Value). Some v) (sym here_value);
          settled = λ above off. settled above;
        }

-- what is called kept is kept by a run
pub announced_at : (prog_of : Key → Prog) (kept : Key → Value → Key → Value → Value → Bool)
    → ((q k : Key) (old new v : Value) → kept q v k old new ≡ true → KeptBy (prog_of q) k old new v)
    → (ks : List Key) (vs ws : List (Arc Value Global)) (rs : List (Vec ℕ Global)) (qs us : List Bool) (at : ℕ) (v : Value) (xs : List ℕ)
    → xs ≡ list_in rs at → ws ≡ vs → length qs ≡ length ks
    → (v ≡ value_in ws at) ⊎ ((i : ℕ) → Contains xs i → i < length qs → (flag_in us i ≡ true) ⊎ (kept (key_in ks i) (value_in ws i) (key_in ks at) (value_in ws at) v ≡ true))
    → AreAnnounced prog_of ks vs rs us at v
announced_at prog_of kept laws ks vs ws rs qs us at v xs is_readers is_values len told =
    subst (λ (ys : List (Arc Value Global)). AreAnnounced prog_of ks ys rs us at v) is_values (go told)
  where
    one : (i : ℕ) → (flag_in us i ≡ true) ⊎ (kept (key_in ks i) (value_in ws i) (key_in ks at) (value_in ws at) v ≡ true)
        → (flag_in us i ≡ true) ⊎ KeptBy (prog_of (key_in ks i)) (key_in ks at) (value_in ws at) v (value_in ws i)
    one i (inl on) = inl on
    one i (inr is) = inr (laws (key_in ks i) (key_in ks at) (value_in ws at) v (value_in ws i) is)

    go : (v ≡ value_in ws at) ⊎ ((i : ℕ) → Contains xs i → i < length qs → (flag_in us i ≡ true) ⊎ (kept (key_in ks i) (value_in ws i) (key_in ks at) (value_in ws at) v ≡ true))
        → AreAnnounced prog_of ks ws rs us at v
    go (inl same) = inl same
    go (inr each) = inr (λ i has lt. one i (each i (subst (λ (ys : List ℕ). Contains ys i) (sym is_readers) has) (omega (arith, lt, len))))
