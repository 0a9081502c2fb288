-- A sound state that closes is the next session.
use Rattle.std.proofs.Common.{◌≡◌, ℕ, suc, zero, ◌<◌, List, [], ◌∷◌, ◌++◌, take, length, refl, sym, ap, ◌∙◌, subst, true, false, Option, Some, None, option_map, arith, append-nil, length-append}
use Rattle.std.proofs.lemmas.List.Elements.{Contains-append_right, Contains-append_left, All-contains, All-from_recursion}
use Rattle.std.proofs.lemmas.List.{take-map}
use Rattle.std.proofs.lemmas.Option.{same_Some}
use Rattle.std.proofs.lemmas.Slice.Eq.{bytes_eq-Decides}
use Rattle.std.specs.Prelude.{if◌then◌else◌, Contains, slice_index_or, bytes_eq}
use Rattle.std.specs.List.{AllByRecursion}
use Rattle.item_ids.specs.declared.key.Key.{Key}
use Rattle.item_ids.proofs.Lists.{all_push, all_from}
use Rattle.item_ids.specs.Inputs.{rank}
use Rattle.result_bytes.specs.declared.value.Value.{Value}
use Rattle.fingerprint.specs.Prints.{print_of}
use Rattle.named_files.specs.Projects.{IsProject}
use Rattle.recorder.specs.Projects.{Project}
use Rattle.recorder.specs.Backed.{Meaning, ReadLists, ReadValue, keys, RunnerLaws, Gives, GivesEach}
use Rattle.sessions.specs.declared.mark.Mark.{Mark}
use Rattle.sessions.specs.declared.mark.Mark.TheVariants.{Input, Green, Executed}
use Rattle.sessions.specs.Sessions.{Entry}
use Rattle.graph_rules.specs.Pasts.{Past, print_in}
use Rattle.graph_rules.specs.Settings.{Setting, kept}
use Rattle.graph_rules.specs.Apart.{HasNoClash}
use Rattle.graph_rules.specs.Steps.{Status, Done, State, IsDoneWith, Unchanged, Changed, edge_at, edge_of, AllUnchanged, walk, MayRun, AreHeld}
use Rattle.graph_rules.specs.Sound.{IsGreen, IsExecuted, IsSoundAt, IsSound}
use Rattle.graph_rules.specs.Graphs.{IsReached, AreClosed, edge}
use Rattle.graph_rules.specs.Graphs.IsReached.{root as starts}
use Rattle.graph_rules.specs.Next.{IsKnownPast, IsReadIn, HasMark, AreNext}
use Rattle.graph_rules.specs.Next.{read as read_in}
use Rattle.graph_rules.specs.Next.IsReadIn.{root as rooted}
use Rattle.graph_rules.proofs.KeyRules.{input_rank, input_means}
use Rattle.graph_rules.proofs.SettingRules.{kept_held}
use Rattle.graph_rules.proofs.Keeping.{all_unchanged, unchanged_all}
use Rattle.graph_rules.proofs.OneNext.{next_is_one}

-- ---- lists

pub last_cons : {X : Type 0} (xs : List X) (x : X) (ys : List X) → (xs ++ x ∷ []) ++ ys ≡ xs ++ x ∷ ys
last_cons [] x ys = refl
last_cons {X} (y ∷ xs) x ys = ap (λ (zs : List X). y ∷ zs) (last_cons xs x ys)

pub has_mid : (xs : List Key) (e : Key) (ys : List Key) → Contains (xs ++ e ∷ ys) e
has_mid xs e ys = let lt : 0 < length (e ∷ ys) = omega arith in Contains-append_right xs (e ∷ ys) e (0, lt, refl)

pub all_at : {X : Type 0} (P : X → Type 0) (xs : List X) → AllByRecursion P xs → (x : X) → Contains xs x → P x
all_at P xs a x has = All-contains P xs x (All-from_recursion P xs a) has

pub take_front : (pre : List Key) (rest : List Key) → take (length pre) (pre ++ rest) ≡ pre
take_front [] rest = refl
take_front (x ∷ pre) rest = ap (λ (zs : List Key). x ∷ zs) (take_front pre rest)

pub take_next : (pre : List Key) (e : Key) (rest : List Key) → take (suc (length pre)) (pre ++ e ∷ rest) ≡ pre ++ e ∷ []
take_next [] e rest = refl
take_next (x ∷ pre) e rest = ap (λ (zs : List Key). x ∷ zs) (take_next pre e rest)

from_take_at : (n : ℕ) (xs : List Key) (e : Key) (k : ℕ) → k < length (take n xs) → slice_index_or (take n xs) k e ≡ e → Contains xs e
from_take_at zero xs e k lt is = absurd (omega arith)
from_take_at (suc n) [] e k lt is = absurd (omega arith)
from_take_at (suc n) (x ∷ xs) e zero lt is = let l : 0 < length (x ∷ xs) = omega arith in (0, l, is)
from_take_at (suc n) (x ∷ xs) e (suc k) lt is =
    let h = from_take_at n xs e k (omega arith) is in
    let l : suc h.0 < length (x ∷ xs) = let b = h.1 in omega arith in (suc h.0, l, h.2)

pub from_take : (n : ℕ) (xs : List Key) (e : Key) → Contains (take n xs) e → Contains xs e
from_take n xs e has = from_take_at n xs e has.0 has.1 has.2

-- a list of which one element more is the list itself
pub whole_take : (xs ys : List Key) → take (suc (length xs)) ys ≡ xs → ys ≡ xs
whole_take [] [] e = refl
whole_take [] (y ∷ ys) e = absurd (cc)
whole_take (x ∷ xs) [] e = e
whole_take (x ∷ xs) (y ∷ ys) e =
    let h : y ≡ x = cc in
    let t : take (suc (length xs)) ys ≡ xs = cc in
    ap (λ (z : Key). z ∷ ys) h ∙ ap (λ (zs : List Key). x ∷ zs) (whole_take xs ys t)

take_whole : (xs : List Key) → take (suc (length xs)) xs ≡ xs
take_whole [] = refl
take_whole (x ∷ xs) = ap (λ (zs : List Key). x ∷ zs) (take_whole xs)

-- Edges in order: if each next one is among the reads as soon as those before it are good, and is good if it is
-- among the reads, all are good.
pub settle : (Good : Key → Type 0) (all : List Key) (Reads : Key → Type 0)
    → ((pre : List Key) (e : Key) (rest : List Key) → all ≡ pre ++ e ∷ rest → AllByRecursion Good pre → Reads e)
    → ((e : Key) → Contains all e → Reads e → Good e)
    → (pre rest : List Key) → all ≡ pre ++ rest → AllByRecursion Good pre → AllByRecursion Good all
settle Good all Reads next good pre [] is before = rw (is, append-nil) before
settle Good all Reads next good pre (e ∷ rest) is before =
    let here : Good e = good e (rw is (has_mid pre e rest)) (next pre e rest is before) in
    settle Good all Reads next good (pre ++ e ∷ []) rest (is ∙ sym (last_cons pre e rest)) (all_push Good pre e before here)

-- ---- edges

-- an unchanged edge to a key that is done so has this fingerprint in the previous session
pub unchanged_print : (pr : Option (List ℕ)) (v : Value) (es : List Key) (m : Mark) → edge_at pr (Done v es m) ≡ Unchanged → pr ≡ Some (print_of v)
unchanged_print None v es m e = absurd (cc)
unchanged_print (Some pr) v es m e =
    (elim (bytes_eq pr (print_of v)) as (λ b. bytes_eq pr (print_of v) ≡ b → (if b then Unchanged else Changed) ≡ Unchanged → Some pr ≡ Some (print_of v)) [
      | true ↦ λ t _. ap Some ((bytes_eq-Decides pr (print_of v)).0 t)
      | false ↦ λ t f. absurd (cc)
    ]) refl e

pub unchanged_by : (pr : Option (List ℕ)) (y : Status) (v : Value) (es : List Key) (m : Mark) → pr ≡ Some (print_of v) → y ≡ Done v es m → edge_at pr y ≡ Unchanged
unchanged_by pr y v es m p yd =
    let t : bytes_eq (print_of v) (print_of v) ≡ true = (bytes_eq-Decides (print_of v) (print_of v)).1 refl in
    rw (p, yd, t) refl

not_needed : (o : Option Entry) (r : Entry) (past : Past) (s : State) → o ≡ Some r → walk past s r.reads ≡ AllUnchanged → MayRun (option_map (λ x. walk past s x.reads) o) → ⊥
not_needed o r past s is all m = let f = rw (is, all) at m in f

-- the fingerprint of a key that the session has
pub print_some : (past : Past) (e : Key) (x : Entry) → past e ≡ Some x → print_in past e ≡ Some (print_of x.value)
print_some past e x is = ap (option_map (λ r. print_of r.value)) is

-- what a key that is done stands for in the project
abbrev pub Means : Meaning → ReadLists → Project → State → Key → Type 0
Means mean reads p s q = (m : Mark) × (s.at q ≡ Done (mean p q) (reads p q) m)

-- A value of the previous session is the one that the project gives a key that is reached, read and done with it, if
-- they share a fingerprint.
abbrev pub IsApart : Meaning → ReadLists → Setting → Project → State → Type 0
IsApart mean reads over p s =
    (e k : Key) (r : Entry) → IsReached p s e → IsReadIn reads p e → Means mean reads p s e → over.held k ≡ Some r → print_of r.value ≡ print_of (mean p e) → r.value ≡ mean p e

module _ (mean : Meaning) (reads : ReadLists) (laws : RunnerLaws mean reads) (over : Setting) (p : Project) (s : State)
    (project : IsProject p) (known : IsKnownPast mean reads over)
    (sound : IsSound mean reads over p s) (apart : IsApart mean reads over p s)
    (done : (q : Key) → IsReached p s q → (v : Value) × (es : List Key) × (m : Mark) × (s.at q ≡ Done v es m)) where
  gives_each : (told : List ReadValue) → AreHeld s told → AllByRecursion (λ e. (u : Value) → IsDoneWith u (s.at e) → mean p e ≡ u) (keys told) → GivesEach (mean p) told
  gives_each [] h a = tt
  gives_each (r ∷ rs) h a = (a.0 r.value h.0, gives_each rs h.1 a.1)

  gives_front : (told : List ReadValue) (i : ℕ) → AreHeld s told → AllByRecursion (λ e. (u : Value) → IsDoneWith u (s.at e) → mean p e ≡ u) (take i (keys told)) → GivesEach (mean p) (take i told)
  gives_front told zero h a = tt
  gives_front [] (suc i) h a = tt
  gives_front (r ∷ rs) (suc i) h a = (a.0 r.value h.0, gives_front rs i h.1 a.1)

  keys_length : (told : List ReadValue) → length (keys told) ≡ length told
  keys_length [] = refl
  keys_length (r ∷ rs) = ap suc (keys_length rs)

  -- an executed key
  executed : (q : Key) (v : Value) (es : List Key) → IsExecuted mean reads over s q v es
      → ((e : Key) → Contains es e → Contains (reads p q) e → Means mean reads p s e) → (reads p q ≡ es) × (mean p q ≡ v)
  executed q v es ex ih =
      let G : Key → Type 0 = λ e. (u : Value) → IsDoneWith u (s.at e) → mean p e ≡ u in
      let next : (pre : List Key) (e : Key) (rest : List Key) → es ≡ pre ++ e ∷ rest → AllByRecursion G pre → Contains (reads p q) e
      = λ pre e rest here before.
      let lt : length pre < length ex.told = omega (arith, ap length here, ap length ex.edges, keys_length ex.told, length-append pre (e ∷ rest)) in
      let g = gives_front ex.told (length pre) ex.held (rw (ex.edges, here, take_front pre (e ∷ rest)) before) in
      let b = ex.outcome.backed.asked (length pre) lt p (record { project = project; each = g }) in
      let t : keys (take (suc (length pre)) ex.told) ≡ pre ++ e ∷ [] = sym (take-map (λ (t : ReadValue). t.key) (suc (length pre)) ex.told) ∙ ap (take (suc (length pre))) (ex.edges ∙ here) ∙ take_next pre e rest in
      subst (λ (xs : List Key). Contains xs e) b.1 (Contains-append_left (keys (take (suc (length pre)) ex.told)) b.0 e (rw t (has_mid pre e []))) in
      let good : (e : Key) → Contains es e → Contains (reads p q) e → G e
      = λ e has inn u d. let m = ih e has inn in subst (λ (y : Status). IsDoneWith u y) m.1 d in
      let all = settle G es (λ e. Contains (reads p q) e) next good [] es refl tt in
      let g : Gives mean p ex.told = record { project = project; each = gives_each ex.told ex.held (rw (← ex.edges) at all) } in
      (ex.outcome.backed.whole p g ∙ ex.edges, ex.outcome.backed.means p g)

  -- a green key
  green : (q : Key) (v : Value) (es : List Key) → s.at q ≡ Done v es Green → 0 < rank q → IsGreen over s q v es → IsReached p s q → IsReadIn reads p q
      → ((e : Key) → Contains es e → Contains (reads p q) e → Means mean reads p s e) → (reads p q ≡ es) × (mean p q ≡ v)
  green q v es is nin gr reached inP ih =
      let old = known.project in
      let had = kept_held over q gr.had gr.past_has in
      let across = known.across q gr.had gr.past_has in
      let r = known.meant q gr.had had in
      let eq : es ≡ known.past_reads old q = sym gr.edges ∙ r.1 in
      let G : Key → Type 0 = λ e. known.past_mean old e ≡ mean p e in
      let unchanged = all_unchanged over.held s es gr.unchanged in
      let good : (e : Key) → Contains (known.past_reads old q) e → Contains (reads p q) e → G e
      = λ e has inn.
      let hase : Contains es e = rw eq has in
      let m = ih e hase inn in
      let x = known.graph.closed q gr.had e had (rw gr.edges hase) in
      let u : edge_of over.held s e ≡ Unchanged = all_at (λ k. edge_of over.held s k ≡ Unchanged) es unchanged e hase in
      let pr = unchanged_print (print_in over.held e) (mean p e) (reads p e) m.0 (ap (edge_at (print_in over.held e)) (sym m.1) ∙ u) in
      let same : print_of x.0.value ≡ print_of (mean p e) = same_Some _ _ (sym (print_some over.held e x.0 x.1) ∙ pr) in
      sym (known.meant e x.0 x.1).0 ∙ apart e e x.0 (edge q v es Green e reached is hase) (read_in q e inP inn) m x.1 same in
      let next : (pre : List Key) (e : Key) (rest : List Key) → known.past_reads old q ≡ pre ++ e ∷ rest → AllByRecursion G pre → Contains (reads p q) e
      = λ pre e rest here before.
      let n = across.next old p (length pre) known.is_project project (rw (here, take_front pre (e ∷ rest)) before) in
      from_take (suc (length pre)) (reads p q) e (rw (← n, here, take_next pre e rest) (has_mid pre e [])) in
      let all = settle G (known.past_reads old q) (λ e. Contains (reads p q) e) next good [] (known.past_reads old q) refl tt in
      let n = across.next old p (length (known.past_reads old q)) known.is_project project (subst (AllByRecursion G) (sym (take_length (known.past_reads old q))) all) in
      let reads_same : reads p q ≡ known.past_reads old q = whole_take (known.past_reads old q) (reads p q) (sym n ∙ take_whole (known.past_reads old q)) in
      (reads_same ∙ sym eq, sym (across.same old p known.is_project project nin all) ∙ (sym r.0 ∙ gr.value))
    where
      take_length : (xs : List Key) → take (length xs) xs ≡ xs
      take_length [] = refl
      take_length (x ∷ xs) = ap (λ (zs : List Key). x ∷ zs) (take_length xs)

  means_at : (q : Key) (v : Value) (es : List Key) (m : Mark) → s.at q ≡ Done v es m → IsSoundAt mean reads over p s q (Done v es m) → IsReached p s q → IsReadIn reads p q
      → ((e : Key) → Contains es e → Contains (reads p q) e → Means mean reads p s e) → Means mean reads p s q
  means_at q v es Input is so reached inP ih =
      let v_is = sym (input_means mean reads laws p project q v so.0) in
      let es_is : es ≡ reads p q = so.1 ∙ sym ((laws.inputs p project).no_reads q (input_rank p q v so.0)) in
      (Input, is ∙ ap (λ (x : Value). Done x es Input) v_is ∙ ap (λ (x : List Key). Done (mean p q) x Input) es_is)
  means_at q v es Green is so reached inP ih = let e = green q v es is so.0 so.1 reached inP ih in (Green, is ∙ ap (λ (x : Value). Done x es Green) (sym e.1) ∙ ap (λ (x : List Key). Done (mean p q) x Green) (sym e.0))
  means_at q v es Executed is so reached inP ih = let e = executed q v es so.1 ih in (Executed, is ∙ ap (λ (x : Value). Done x es Executed) (sym e.1) ∙ ap (λ (x : List Key). Done (mean p q) x Executed) (sym e.0))

  -- by rank: each key that is reached, and read in the project, has its meaning
  pub means : (n : ℕ) (q : Key) → rank q < n → IsReached p s q → IsReadIn reads p q → Means mean reads p s q
  means zero q lt reached inP = absurd (omega arith)
  means (suc n) q lt reached inP =
      let d = done q reached in
      let so : IsSoundAt mean reads over p s q (Done d.0 d.1 d.2) = subst (λ (y : Status). IsSoundAt mean reads over p s q y) d.3 (sound q) in
      means_at q d.0 d.1 d.2 d.3 so reached inP
      (λ e has inn. let low = all_at (λ k. rank k < rank q) (reads p q) ((laws.keys p project).lower q) e inn in means n e (omega arith) (edge q d.0 d.1 d.2 e reached d.3 has) (read_in q e inP inn))

  means_of : (q : Key) → IsReached p s q → IsReadIn reads p q → Means mean reads p s q
  means_of q reached inP = means (suc (rank q)) q (omega arith) reached inP

  pub read_of : (q : Key) → IsReached p s q → IsReadIn reads p q
  read_of q (starts _ r) = rooted q r
  read_of _ (edge q v es m e reached is has) =
      let inP = read_of q reached in
      let me = means_of q reached inP in
      let same : es ≡ reads p q = let b = sym is ∙ me.1 in cc in
      read_in q e inP (subst (λ (xs : List Key). Contains xs e) same has)

  pub reached_of : (q : Key) → IsReadIn reads p q → IsReached p s q
  reached_of q (rooted _ r) = starts q r
  reached_of _ (read_in q e inP has) =
      let reached = reached_of q inP in
      let me = means_of q reached inP in
      edge q (mean p q) (reads p q) me.0 e reached me.1 has

  mark_of : (q : Key) (v : Value) (es : List Key) (m : Mark) → s.at q ≡ Done v es m → IsSoundAt mean reads over p s q (Done v es m) → IsReadIn reads p q → HasMark mean reads over p q m
  mark_of q v es Input is so inP = input_rank p q v so.0
  mark_of q v es Green is so inP =
      let me = means_of q (reached_of q inP) inP in
      let same : es ≡ reads p q = let b = sym is ∙ me.1 in cc in
      let gr = so.1 in (
        so.0,
        record {
          had = gr.had;
          past_has = gr.past_has;
          same = λ e has.
              let hase : Contains es e = subst (λ (xs : List Key). Contains xs e) gr.edges has in
              let ine = read_in q e inP (subst (λ (xs : List Key). Contains xs e) same hase) in
              let m = means_of e (reached_of e ine) ine in
              let u : edge_of over.held s e ≡ Unchanged = all_at (λ k. edge_of over.held s k ≡ Unchanged) es (all_unchanged over.held s es gr.unchanged) e hase in
              (ine, unchanged_print (print_in over.held e) (mean p e) (reads p e) m.0 (ap (edge_at (print_in over.held e)) (sym m.1) ∙ u));
        },
      )
  mark_of q v es Executed is so inP = (
    so.0,
    (λ gr.
        let each : AllByRecursion (λ e. edge_of over.held s e ≡ Unchanged) gr.had.reads = all_from (λ e. edge_of over.held s e ≡ Unchanged) gr.had.reads (λ e has.
        let h = gr.same e has in
        let m = means_of e (reached_of e h.0) h.0 in
        unchanged_by (print_in over.held e) (s.at e) (mean p e) (reads p e) m.0 h.1 m.1) in
        not_needed (kept over q) gr.had over.held s gr.past_has (unchanged_all over.held s gr.had.reads each) so.1.needed),
  )

-- ---- what a sound state closes with

-- the values by which reached keys are done
entry_means : (mean : Meaning) (reads : ReadLists) (p : Project) (s : State) (e : Key) (x : Entry) → x.key ≡ e → s.at x.key ≡ Done x.value x.reads x.mark → Means mean reads p s e → x.value ≡ mean p e
entry_means mean reads p s e x key is m =
    let both : Done x.value x.reads x.mark ≡ Done (mean p e) (reads p e) m.0 = sym is ∙ (ap s.at key ∙ m.1) in
    cc

-- it is enough that the previous session is apart from the entries
apart_made : (mean : Meaning) (reads : ReadLists) (over : Setting) (p : Project) (s : State) (entries : List Entry) → AreClosed p s entries → HasNoClash over.held entries → IsApart mean reads over p s
apart_made mean reads over p s entries closed apart e k r reached inP m has same =
    let x = closed.all e reached in
    let v : x.0.value ≡ mean p e = entry_means mean reads p s e x.0 x.2 (closed.each x.0 x.1).1 m in
    apart k r x.0 has x.1 (same ∙ ap print_of (sym v)) ∙ v

-- or from those of the next session
apart_next : (mean : Meaning) (reads : ReadLists) (over : Setting) (p : Project) (s : State) (next : List Entry) → AreNext mean reads over p next → HasNoClash over.held next → IsApart mean reads over p s
apart_next mean reads over p s next is apart e k r reached inP m has same =
    let x = is.all e inP in
    let v : x.0.value ≡ mean p e = (is.each x.0 x.1).value ∙ ap (mean p) x.2 in
    apart k r x.0 has x.1 (same ∙ ap print_of (sym v)) ∙ v

module _ (mean : Meaning) (reads : ReadLists) (laws : RunnerLaws mean reads) (over : Setting) (p : Project) (s : State) (entries : List Entry)
    (project : IsProject p) (known : IsKnownPast mean reads over) (sound : IsSound mean reads over p s) (closed : AreClosed p s entries) where
  closed_by : IsApart mean reads over p s → AreNext mean reads over p entries
  closed_by apart =
      let done : (q : Key) → IsReached p s q → (v : Value) × (es : List Key) × (m : Mark) × (s.at q ≡ Done v es m)
      = λ q reached. let a = closed.all q reached in (a.0.value, a.0.reads, a.0.mark, ap s.at (sym a.2) ∙ (closed.each a.0 a.1).1) in
      record {
        ascending = closed.ascending;
        each = λ r has.
            let c = closed.each r has in
            let inP = read_of mean reads laws over p s project known sound apart done r.key c.0 in
            let me = means mean reads laws over p s project known sound apart done (suc (rank r.key)) r.key (omega arith) c.0 inP in
            let both : Done r.value r.reads r.mark ≡ Done (mean p r.key) (reads p r.key) me.0 = sym c.1 ∙ me.1 in
            record {
              reached = inP;
              value = cc;
              edges = cc;
              mark = mark_of mean reads laws over p s project known sound apart done r.key r.value r.reads r.mark c.1
                  (subst (λ (y : Status). IsSoundAt mean reads over p s r.key y) c.1 (sound r.key)) inP;
            };
        all = λ q inP. closed.all q (reached_of mean reads laws over p s project known sound apart done q inP);
      }

  pub closed_next : HasNoClash over.held entries → AreNext mean reads over p entries
  closed_next apart = closed_by (apart_made mean reads over p s entries closed apart)

  pub closed_as : (next : List Entry) → AreNext mean reads over p next → HasNoClash over.held next → entries ≡ next
  closed_as next is apart = next_is_one mean reads over p entries next (closed_by (apart_next mean reads over p s next is apart)) is
