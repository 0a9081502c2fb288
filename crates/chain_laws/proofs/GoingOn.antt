-- A chain of right sessions stays one with the next session over its last one.
use Rattle.std.proofs.Common.{◌≡◌, ℕ, ◌+◌, List, [], ◌∷◌, ◌++◌, map, length, Option, Some, None, refl, sym, ap, ◌∙◌, subst, arith}
use Rattle.std.specs.Prelude.{Contains, IfSome}
use Rattle.std.specs.List.{AllByRecursion}
use Rattle.std.proofs.lemmas.List.{map-append}
use Rattle.std.proofs.lemmas.List.Elements.{Contains-append_left, Contains-push}
use Rattle.std.proofs.lemmas.Option.{none-some, same_Some}
use Rattle.profiles.specs.declared.profile.Profile.{Profile}
use Rattle.item_ids.specs.declared.key.Key.{Key}
use Rattle.item_ids.specs.declared.key.Key.TheVariants.{Answer}
use Rattle.item_ids.proofs.Lists.{all_push}
use Rattle.result_bytes.specs.declared.value.Value.{Value}
use Rattle.named_files.specs.Projects.{IsProject}
use Rattle.recorder.specs.Projects.{Project}
use Rattle.recorder.specs.Backed.{Queries, AreLawful}
use Rattle.sessions.specs.declared.terms.Terms.{Terms}
use Rattle.sessions.specs.Sessions.{SessionValue, IsSession, IsTakenFrom, entries, entry_at, past_entry, next_number}
use Rattle.sessions.specs.Spelling.{file_of}
use Rattle.sessions.proofs.EntryRules.{has_key}
use Rattle.graph_rules.specs.Settings.{setting_of}
use Rattle.graph_rules.specs.Apart.{AreApartFrom, HasNoClash}
use Rattle.graph_rules.specs.Graphs.IsRoot.{answer as answer_root}
use Rattle.graph_rules.specs.Next.{IsRightAfter}
use Rattle.graph_rules.specs.Next.IsReadIn.{root}
use Rattle.graph_rules.proofs.SettingRules.{kept_held}
use Rattle.graph_rules.proofs.SessionRules.{entry_told, no_clash}
use Rattle.graph_rules.specs.NextSessions.{IsOfSomeProject, StandsApart, IsNextSession, ReadsOwnFiles}
use Rattle.graph_rules.proofs.NextRight.{told, next_right}
use Rattle.audit_graph.specs.Chains.{AreLinked}
use Rattle.audit_graph.specs.declared.fault.AuditFault.{AuditFault}
use Rattle.audit_graph.specs.declared.fault.AuditFault.TheVariants.{OutOfMemory}
use Rattle.audit_graph.proofs.Entries.{contains_first, contains_later}
use Rattle.audit_replay.specs.Audits.{AreRight, AreApart, IsRecorded, IsAccepted, AuditRefuses, last_of}
use Rattle.audit_replay.specs.RightChains.{IsRightChain}
use Rattle.audit_replay.proofs.FileRules.{last_more}
use Rattle.audit_replay.proofs.RightRules.{refused, accepted_right}
use Rattle.audit_replay.proofs.SumRules.{linked_more, right_more}

-- ---- the last session

-- the last session is one of them
last_in : (ss : List SessionValue) (t : SessionValue) → last_of None ss ≡ Some t → Contains ss t
last_in [] t is = absurd (none-some t is)
last_in (s ∷ ss) t is = behind s ss is
  where
    behind : (u : SessionValue) (us : List SessionValue) → last_of (Some u) us ≡ Some t → Contains (u ∷ us) t
    behind u [] is = subst (Contains (u ∷ [])) (same_Some u t is) (contains_first u [])
    behind u (v ∷ vs) is = contains_later u (v ∷ vs) t (behind v vs is)

-- ---- numbers and links

number_behind : (past : Option SessionValue) (k n : ℕ) (ss : List SessionValue) → next_number past ≡ k → AreLinked past k ss → n ≡ k + length ss → next_number (last_of past ss) ≡ n
number_behind past k n [] is linked many = omega (arith, is, many)
number_behind past k n (s ∷ ss) is linked many =
    let number = linked.0.number in
    let here : next_number (Some s) ≡ k + 1 = omega (arith, number) in
    number_behind (Some s) (k + 1) n ss here linked.2 (omega (arith, many))

module _ (queries : Queries) where
  -- a session is that of some project by its own profile
  abbrev IsKnown : SessionValue → Type 0
  IsKnown t = IsOfSomeProject (queries.mean t.terms.profile) (queries.reads t.terms.profile) (entry_at t)

  -- the last session is one, and that of some project
  last_known : (past : Option SessionValue) (ss : List SessionValue) → IfSome past IsKnown → AreRight queries past ss → IfSome (last_of past ss) IsKnown
  last_known past [] known right = known
  last_known past (s ∷ ss) known right = last_known (Some s) ss (right.0.project, right.0.of_project) right.1

  pub last_session : (past : Option SessionValue) (ss : List SessionValue) → IfSome past IsSession → AllByRecursion IsSession ss → IfSome (last_of past ss) IsSession
  last_session past [] session each = session
  last_session past (s ∷ ss) session each = last_session (Some s) ss each.0 each.1

  -- ---- a session behind a right chain

  module _ (sessions : List SessionValue) (chain : IsRightChain queries sessions) (s : SessionValue) (apart : AreApart (sessions ++ s ∷ [])) where
    there : (past : Option SessionValue) → last_of None sessions ≡ past → AreApartFrom (past_entry past) (entry_at s)
    there None last v w a b same = absurd (none-some a.entry a.has)
    there (Some t) last v w a b same =
        apart v w
        (record { session = t; there = Contains-append_left sessions (s ∷ []) t (last_in sessions t last); key = a.key; entry = a.entry; has = a.has; value = a.value })
        (record { session = s; there = Contains-push sessions s; key = b.key; entry = b.entry; has = b.has; value = b.value })
        same

    pub stands_apart : StandsApart queries (last_of None sessions) s
    stands_apart = record { past_is = last_known None sessions tt chain.right; apart = there (last_of None sessions) refl }

  -- a green record of a session that is right over the previous one, and has no clash with it, has the result that is
  -- recorded there
  taken_over : (past : Option SessionValue) (s : SessionValue) → IsSession s → IsRightAfter queries past s → HasNoClash (past_entry past) (entries s) → IsTakenFrom past s
  taken_over past s session right apart two q r has green =
      let over = setting_of queries.by_profile s.terms.profile past in
      let g = right.greens q r has green in
      let held = kept_held over r.key g.had g.past_has in
      (g.had, subst (λ (k : Key). past_entry past k ≡ Some g.had) (has_key s session q r has) held, apart r.key g.had r held (entry_told s q r has) g.print)

  module _ (laws : AreLawful queries) (sessions : List SessionValue) (chain : IsRightChain queries sessions) (terms : Terms) (p : Project) (next : SessionValue)
      (project : IsProject p) (own : ReadsOwnFiles (queries.reads terms.profile) p) (is : IsNextSession queries terms (last_of None sessions) p next) (apart : AreApart (sessions ++ next ∷ [])) where
    abbrev past : Option SessionValue
    past = last_of None sessions

    past_is : IfSome past IsSession
    past_is = last_session None sessions tt chain.each

    stands : StandsApart queries past next
    stands = stands_apart sessions chain next apart

    right : IsRightAfter queries past next
    right = next_right queries laws terms past p next project past_is stands own is

    pub goes_on : IsRightChain queries (sessions ++ next ∷ [])
    goes_on = record {
      each = all_push IsSession sessions next chain.each is.session;
      chain = linked_more None 0 (length sessions) sessions next (omega arith) chain.chain
          (record {
            number = is.number ∙ number_behind None 0 (length sessions) sessions refl chain.chain (omega arith);
            link = is.link;
          })
          (taken_over past next is.session right (no_clash past next past_is is.session stands.apart));
      right = right_more queries None sessions next chain.right right;
      answered = λ none.
          let over = setting_of queries.by_profile terms.profile past in
          let x = told (queries.mean terms.profile) (queries.reads terms.profile) (laws.each terms.profile) over p next project own is.session is.told Answer (root Answer answer_root) in
          none-some x.0 (sym none ∙ (ap (λ (o : Option SessionValue). past_entry o Answer) (last_more None sessions next) ∙ x.1));
    }

-- the same two results are in fewer sessions
fewer_apart : (ss : List SessionValue) (s : SessionValue) → AreApart (ss ++ s ∷ []) → AreApart ss
fewer_apart ss s apart v w a b same = apart v w (more v a) (more w b) same
  where
    more : (v : Value) → IsRecorded ss v → IsRecorded (ss ++ s ∷ []) v
    more v r = record { session = r.session; there = Contains-append_left ss (s ∷ []) r.session r.there; key = r.key; entry = r.entry; has = r.has; value = r.value }

module _ (queries : Queries) (files : List (List ℕ)) (old new : List Key) (profile : Profile) (project : Project) (answer : Value) (count runs : ℕ)
    (accepted : IsAccepted queries files old new profile project answer count runs) where
  pub accepted_chain : (s : SessionValue) → AreApart (accepted.sessions ++ s ∷ []) → IsRightChain queries accepted.sessions
  accepted_chain s apart = accepted_right queries files old new profile project answer count runs accepted (fewer_apart accepted.sessions s apart)

  pub behind_accepted : (s : SessionValue) → AreApart (accepted.sessions ++ s ∷ []) → StandsApart queries (last_of None accepted.sessions) s
  behind_accepted s apart = stands_apart queries accepted.sessions (accepted_chain s apart) s apart

  pub next_accepted : AreLawful queries → (terms : Terms) (p : Project) (next : SessionValue) → IsProject p → ReadsOwnFiles (queries.reads terms.profile) p
      → IsNextSession queries terms (last_of None accepted.sessions) p next
      → AreApart (accepted.sessions ++ next ∷ [])
      → (before after : List Key) (fault : AuditFault)
      → AuditRefuses queries (files ++ file_of next ∷ []) before after fault
      → fault ≡ OutOfMemory
  next_accepted laws terms p next is_project own is apart before after fault r =
      let on = goes_on queries laws accepted.sessions (accepted_chain next apart) terms p next is_project own is apart in
      let spelled : map file_of (accepted.sessions ++ next ∷ []) ≡ files ++ file_of next ∷ [] = map-append file_of accepted.sessions (next ∷ []) ∙ ap (λ (fs : List (List ℕ)). fs ++ file_of next ∷ []) accepted.passed.spelled in
      refused queries (accepted.sessions ++ next ∷ []) on (files ++ file_of next ∷ []) spelled before after fault r
