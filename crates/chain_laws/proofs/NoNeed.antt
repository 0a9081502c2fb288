-- In a next session no query is executed without need.
use Rattle.std.proofs.Common.{◌≡◌, ◌≢◌, ◌∙◌, Bool, true, false, cond, List, [], ◌∷◌, Option, Some, None, option_map, refl, sym, ap, subst, true≢false}
use Rattle.std.specs.Prelude.{find}
use Rattle.std.specs.List.{AllByRecursion}
use Rattle.std.proofs.lemmas.Option.{none-some}
use Rattle.std.proofs.lemmas.List.Elements.{All-contains, All-from_recursion}
use Rattle.std.proofs.lemmas.Slice.Eq.{bytes_eq-Decides}
use Rattle.std.proofs.lemmas.Bool.{not-false}
use Rattle.item_ids.specs.declared.key.Key.{Key}
use Rattle.item_ids.specs.Keys.{kind_of}
use Rattle.fingerprint.specs.Prints.{print_of}
use Rattle.recorder.specs.Projects.{Project}
use Rattle.recorder.specs.Backed.{Meaning, ReadLists, Queries}
use Rattle.sessions.specs.declared.mark.Mark.{Mark}
use Rattle.sessions.specs.declared.mark.Mark.TheVariants.{Executed}
use Rattle.sessions.specs.declared.terms.Terms.{Terms}
use Rattle.sessions.specs.Sessions.{Entry, SessionValue, IsSession, entries, entry_at, past_entry}
use Rattle.sessions.proofs.EntryRules.{has_key, some_map}
use Rattle.graph_rules.specs.Pasts.{print_in}
use Rattle.graph_rules.specs.Settings.{Setting, has_kind, crossing_kinds, setting_of}
use Rattle.graph_rules.specs.Next.{AreNext, HasMark, IsReadIn, IsUnchanged}
use Rattle.graph_rules.proofs.SettingRules.{kept_some}
use Rattle.graph_rules.proofs.SessionRules.{entry_told}
use Rattle.graph_rules.specs.NextSessions.{IsNextSession}
use Rattle.session_text.specs.declared.causes.cause.Cause.TheVariants.{NothingChanged}
use Rattle.session_text.specs.declared.causes.cause.Why.{Why}
use Rattle.session_text.specs.Causes.{AreWhys, IsRightWhy, IsExplained, IsWhy, first_red, have_same_print, is_red, mark_at}

-- if none is found, none passes
pub none_passes : {X : Type 0} (test : X → Bool) (xs : List X) → find test xs ≡ None → AllByRecursion (λ x. test x ≡ false) xs
none_passes test [] none = tt
none_passes {X} test (x ∷ xs) none =
    (elim (test x) as (λ b. test x ≡ b → cond b (Some x) (find test xs) ≡ None → (test x ≡ false) × AllByRecursion (λ y. test y ≡ false) xs) [
      | true ↦ λ is e. absurd (none-some x (sym e))
      | false ↦ λ is e. (is, none_passes test xs e)
    ]) refl none

-- the two entries that have one fingerprint
pub both_have : (old new : Option Entry) → have_same_print old new ≡ true
    → (had : Entry) × (r : Entry) × (old ≡ Some had) × (new ≡ Some r) × (print_of had.value ≡ print_of r.value)
both_have None new e = absurd (true≢false (sym e))
both_have (Some had) None e = absurd (true≢false (sym e))
both_have (Some had) (Some r) e = (had, r, refl, refl, (bytes_eq-Decides (print_of had.value) (print_of r.value)).0 e)

module _ (mean : Meaning) (reads : ReadLists) (over : Setting) (p : Project) (s : SessionValue) (session : IsSession s) (next : AreNext mean reads over p (entries s)) where
  -- a key that has one fingerprint in both sessions
  same_edge : (past : Option SessionValue) → over.held ≡ past_entry past → (e : Key) → is_red past s e ≡ false → IsReadIn reads p e × (print_in over.held e ≡ Some (print_of (mean p e)))
  same_edge past held e not_red =
      let b = both_have (past_entry past e) (entry_at s e) (not-false (have_same_print (past_entry past e) (entry_at s e)) not_red) in
      let n = next.each b.1 (entry_told s e b.1 b.3) in
      let key : b.1.key ≡ e = has_key s session e b.1 b.3 in
      let value : b.1.value ≡ mean p e = n.value ∙ ap (mean p) key in (
        subst (IsReadIn reads p) key n.reached,
        ap (λ past. option_map (λ (r : Entry). print_of r.value) (past e)) held
            ∙ (ap (option_map (λ (r : Entry). print_of r.value)) b.2 ∙ ap (λ print. Some print) (b.4 ∙ ap print_of value)),
      )

  unchanged : (past : Option SessionValue) → over.held ≡ past_entry past → (q : Key) (had : Entry) → past_entry past q ≡ Some had → first_red past s had ≡ None
      → has_kind over.crossing (kind_of q) ≡ false → IsUnchanged mean reads over p q
  unchanged past held q had is none stays = record {
    had = had;
    past_has = kept_some over q had stays (ap (λ past. past q) held ∙ is);
    same = λ e c. same_edge past held e
        (All-contains (λ (k : Key). is_red past s k ≡ false) had.reads e (All-from_recursion (λ (k : Key). is_red past s k ≡ false) had.reads (none_passes (is_red past s) had.reads none)) c);
  }

  not_executed : (q : Key) → mark_at s q ≡ Some Executed → IsUnchanged mean reads over p q → ⊥
  not_executed q run u =
      let r = some_map (λ (x : Entry). x.mark) (entry_at s q) Executed run in
      let n = next.each r.0 (entry_told s q r.0 r.1) in
      let mark : HasMark mean reads over p q Executed =
      subst (λ (m : Mark). HasMark mean reads over p q m) r.2 (subst (λ (k : Key). HasMark mean reads over p k r.0.mark) (has_key s session q r.0 r.1) n.mark) in
      mark.1 u

pub no_need : (queries : Queries) (terms : Terms) (past : Option SessionValue) (p : Project) (s : SessionValue) → IsNextSession queries terms past p s
    → (q : Key) → IsWhy past s (crossing_kinds queries.by_profile s.terms.profile past) q NothingChanged → ⊥
no_need queries terms past p s next q why =
    let mean = queries.mean terms.profile in
    let reads = queries.reads terms.profile in
    let over = setting_of queries.by_profile terms.profile past in
    let stays : has_kind over.crossing (kind_of q) ≡ false = subst (λ (t : Terms). has_kind (crossing_kinds queries.by_profile t.profile past) (kind_of q) ≡ false) next.terms_are why.1.2.1 in
    not_executed mean reads over p s next.session next.told q why.0
    (unchanged mean reads over p s next.session next.told past refl q why.1.0 why.1.1 why.1.2.0 stays)

each_needed : (queries : Queries) (terms : Terms) (past : Option SessionValue) (p : Project) (s : SessionValue) → IsNextSession queries terms past p s → (whys : List Why)
    → AllByRecursion (λ why. IsExplained past s why.key.now × IsRightWhy past s (crossing_kinds queries.by_profile s.terms.profile past) why) whys → AllByRecursion (λ why. why.cause ≢ NothingChanged) whys
each_needed queries terms past p s next [] h = tt
each_needed queries terms past p s next (w ∷ whys) h = (
  (λ is. no_need queries terms past p s next w.key.now (subst (IsWhy past s (crossing_kinds queries.by_profile s.terms.profile past) w.key.now) is h.0.1.cause)),
  each_needed queries terms past p s next whys h.1,
)

pub all_needed : (queries : Queries) (terms : Terms) (past : Option SessionValue) (p : Project) (s : SessionValue) → IsNextSession queries terms past p s → (whys : List Why)
    → AreWhys past s (crossing_kinds queries.by_profile s.terms.profile past) whys → AllByRecursion (λ why. why.cause ≢ NothingChanged) whys
all_needed queries terms past p s next whys are = each_needed queries terms past p s next whys are.each
