-- The next session is right.
use Rattle.std.proofs.Common.{◌≡◌, suc, List, take, length, Option, Some, None, sym, ap, ◌∙◌, subst, arith}
use Rattle.std.specs.Prelude.{Contains, IfSome, ◌<◌}
use Rattle.std.specs.List.{AllByRecursion}
use Rattle.std.proofs.lemmas.List.{take_all}
use Rattle.std.proofs.lemmas.Option.{same_Some}
use Rattle.profiles.specs.declared.profile.Profile.{Profile}
use Rattle.item_ids.specs.declared.key.Key.{Key}
use Rattle.item_ids.specs.declared.key.Key.TheVariants.{Files, Source}
use Rattle.item_ids.specs.Inputs.{rank}
use Rattle.item_ids.proofs.Lists.{all_from}
use Rattle.fingerprint.specs.Prints.{print_of}
use Rattle.named_files.specs.Projects.{IsProject}
use Rattle.recorder.specs.Projects.{Project}
use Rattle.recorder.specs.Backed.{Meaning, ReadLists, RunnerLaws, Queries, AreLawful, Alike}
use Rattle.sessions.specs.declared.terms.Terms.{Terms}
use Rattle.sessions.specs.declared.mark.Mark.{Mark}
use Rattle.sessions.specs.declared.mark.Mark.TheVariants.{Green}
use Rattle.sessions.specs.Sessions.{SessionValue, IsSession, Entry, entries, entry_at}
use Rattle.sessions.proofs.EntryRules.{has_key}
use Rattle.graph_rules.specs.Settings.{Setting, kept, setting_of}
use Rattle.graph_rules.specs.Apart.{HasNoClash}
use Rattle.graph_rules.specs.Graphs.IsRoot.{files, source}
use Rattle.graph_rules.specs.Next.{AreMeant, AreSources, IsKnownPast, IsRight, IsRightAfter, StandsIn, IsReadIn, HasMark, IsUnchanged, IsNextEntry, AreNext}
use Rattle.graph_rules.specs.Next.IsReadIn.{root}
use Rattle.graph_rules.proofs.SettingRules.{kept_held}
use Rattle.graph_rules.proofs.KnownRules.{known_past as known_over}
use Rattle.graph_rules.proofs.NextRules.{print_some, whole_take}
use Rattle.graph_rules.proofs.SessionRules.{past_graph, told_of_entry, entry_told, no_clash}
use Rattle.graph_rules.specs.NextSessions.{IsOfSomeProject, StandsApart, IsNextSession, ReadsOwnFiles}

module _ (mean : Meaning) (reads : ReadLists) (laws : RunnerLaws mean reads) (over : Setting) (p : Project) (s : SessionValue)
    (project : IsProject p) (own : ReadsOwnFiles reads p) (session : IsSession s) (next : AreNext mean reads over p (entries s)) where
  -- what the session says about a key that is read
  pub told : (q : Key) → IsReadIn reads p q → (r : Entry) × (entry_at s q ≡ Some r) × (r.value ≡ mean p q) × Contains (entries s) r
  told q inn =
      let a = next.all q inn in
      (a.0, subst (λ (k : Key). entry_at s k ≡ Some a.0) a.2 (told_of_entry s session a.0 a.1), (next.each a.0 a.1).value ∙ ap (mean p) a.2, a.1)

  pub next_entry : (q : Key) (r : Entry) → entry_at s q ≡ Some r → IsNextEntry mean reads over p r
  next_entry q r has = next.each r (entry_told s q r has)

  key_of : (q : Key) (r : Entry) → entry_at s q ≡ Some r → r.key ≡ q
  key_of q r has = has_key s session q r has

  next_sources : AreSources (entry_at s) p
  next_sources = record {
    project = project;
    files = let t = told Files (root Files files) in (t.0, t.1, t.2 ∙ (laws.inputs p project).files);
    each = λ file c. let t = told (Source file) (root (Source file) (source file c)) in (t.0, t.1, t.2 ∙ (laws.inputs p project).source file);
    others = λ file r has. own file (subst (IsReadIn reads p) (key_of (Source file) r has) (next_entry (Source file) r has).reached);
  }

  next_meant : AreMeant mean reads (entry_at s) p
  next_meant q r has =
      let e = next_entry q r has in
      let k = key_of q r has in
      (e.value ∙ ap (mean p) k, e.edges ∙ ap (reads p) k)

  -- ---- green keys

  module _ (known : IsKnownPast mean reads over) (apart : HasNoClash over.held (entries s)) where
    alike_at : (q : Key) (u : IsUnchanged mean reads over p q) → (e : Key) → Contains u.had.reads e → known.past_mean known.project e ≡ mean p e
    alike_at q u e c =
        let x = known.graph.closed q u.had e (kept_held over q u.had u.past_has) c in
        let h = u.same e c in
        let y = told e h.0 in
        let same : print_of x.0.value ≡ print_of (mean p e) = same_Some _ _ (sym (print_some over.held e x.0 x.1) ∙ h.1) in
        sym (known.meant e x.0 x.1).0 ∙ (apart e x.0 y.0 x.1 y.3 (same ∙ ap print_of (sym y.2)) ∙ y.2)

    stands : (q : Key) (r : Entry) → r.key ≡ q → IsNextEntry mean reads over p r → (0 < rank q) → IsUnchanged mean reads over p q → StandsIn over (entry_at s) r
    stands q r key e high u =
        let old = known.project in
        let across = known.across q u.had u.past_has in
        let m = known.meant q u.had (kept_held over q u.had u.past_has) in
        let each : AllByRecursion (λ k. known.past_mean old k ≡ mean p k) u.had.reads = all_from (λ k. known.past_mean old k ≡ mean p k) u.had.reads (alike_at q u) in
        let alike : Alike (known.past_mean old) (mean p) (known.past_reads old q) = subst (Alike (known.past_mean old) (mean p)) m.1 each in
        let n = length (known.past_reads old q) in
        let some : Alike (known.past_mean old) (mean p) (take n (known.past_reads old q)) = subst (Alike (known.past_mean old) (mean p)) (sym (take_all n (known.past_reads old q) (omega arith))) alike in
        let after = across.next old p n known.is_project project some in
        let same : reads p q ≡ known.past_reads old q = whole_take (known.past_reads old q) (reads p q) (sym after ∙ take_all (suc n) (known.past_reads old q) (omega arith)) in
        let value : known.past_mean old q ≡ mean p q = across.same old p known.is_project project high alike in
        let edges : u.had.reads ≡ r.reads = m.1 ∙ (sym same ∙ (sym (ap (reads p) key) ∙ sym e.edges)) in
        let results : u.had.value ≡ r.value = m.0 ∙ (value ∙ (sym (ap (mean p) key) ∙ sym e.value)) in
        record {
          had = u.had;
          past_has = ap (kept over) key ∙ u.past_has;
          edges = edges;
          print = ap print_of results;
          same = λ k c.
              let h = u.same k (subst (λ (ks : List Key). Contains ks k) (sym edges) c) in
              let t = told k h.0 in
              h.1 ∙ sym (print_some (entry_at s) k t.0 t.1 ∙ ap (λ v. Some (print_of v)) t.2);
        }

    green : (q : Key) (r : Entry) → entry_at s q ≡ Some r → r.mark ≡ Green → StandsIn over (entry_at s) r
    green q r has is =
        let e = next_entry q r has in
        let key = key_of q r has in
        let mark : HasMark mean reads over p q Green = subst (λ (m : Mark). HasMark mean reads over p q m) is (subst (λ (k : Key). HasMark mean reads over p k r.mark) key e.mark) in
        stands q r key e mark.0 mark.1

    pub right : IsRight mean reads over (entry_at s)
    right = record {
      project = p;
      of_project = record { sources = next_sources; meant = next_meant };
      greens = green;
    }

-- a previous session of some project is known, and so is none
pub known_past : (queries : Queries) → AreLawful queries → (profile : Profile) (past : Option SessionValue) (p : Project) → IsProject p → IfSome past IsSession
    → IfSome past (λ t. IsOfSomeProject (queries.mean t.terms.profile) (queries.reads t.terms.profile) (entry_at t))
    → IsKnownPast (queries.mean profile) (queries.reads profile) (setting_of queries.by_profile profile past)
known_past queries laws profile None p project session past_is = known_over queries laws profile None p (past_graph None session) project tt
known_past queries laws profile (Some s) p project session past_is =
    known_over queries laws profile (Some s) past_is.0 (past_graph (Some s) session) past_is.1.sources.project past_is.1.meant

pub next_right : (queries : Queries) → AreLawful queries → (terms : Terms) (past : Option SessionValue) (p : Project) (s : SessionValue) → IsProject p
    → IfSome past IsSession → StandsApart queries past s → ReadsOwnFiles (queries.reads terms.profile) p → IsNextSession queries terms past p s → IsRightAfter queries past s
next_right queries laws terms past p s project session apart own next =
    let over = setting_of queries.by_profile terms.profile past in
    let known = known_past queries laws terms.profile past p project session apart.past_is in
    let is : IsRight (queries.mean terms.profile) (queries.reads terms.profile) over (entry_at s)
    = right (queries.mean terms.profile) (queries.reads terms.profile) (laws.each terms.profile) over p s project own next.session next.told known (no_clash past s session next.session apart.apart) in
    subst (λ (t : Terms). IsRight (queries.mean t.profile) (queries.reads t.profile) (setting_of queries.by_profile t.profile past) (entry_at s)) (sym next.terms_are) is
