-- Why green keys don't stand in the previous session.
use Rattle.std.proofs.Common.{◌≡◌, ◌≢◌, ℕ, suc, zero, ◌+◌, ◌<◌, ◌≤◌, List, [], ◌∷◌, ◌++◌, map, take, length, get_or, slice_get, Some, None, Bool, true, false, option_map, sym, ap, ◌∙◌, subst, arith}
use Rattle.std.specs.Prelude.{Contains, HoldsAt, if◌then◌else◌}
use Rattle.std.specs.List.{AllByRecursion}
use Rattle.std.proofs.lemmas.Option.{none-some, same_Some, slice_get-get_or}
use Rattle.std.proofs.lemmas.List.{take_all, take_more, map-append, get_or-map, length-map}
use Rattle.item_ids.specs.declared.kind.Kind.{Kind}
use Rattle.item_ids.specs.declared.key.Key.{Key}
use Rattle.item_ids.specs.declared.key.Key.TheVariants.{Files}
use Rattle.item_ids.specs.Keys.{kind_of}
use Rattle.fingerprint.specs.Prints.{print_of}
use Rattle.sessions.specs.declared.mark.Mark.TheVariants.{Green}
use Rattle.sessions.specs.Sessions.{Entry, RecordValue, SessionValue, IsSession, entries, entry_at, entry_of, key_at}
use Rattle.graph_rules.specs.Pasts.{Past, print_in}
use Rattle.graph_rules.specs.Settings.{Setting, has_kind, kept}
use Rattle.graph_rules.specs.Next.{StandsIn}
use Rattle.graph_rules.proofs.NextRules.{all_at}
use Rattle.graph_rules.proofs.SettingRules.{kept_held, kept_kind}
use Rattle.graph_rules.proofs.SessionRules.{session_graph}
use Rattle.audit_graph.specs.Firsts.{IsFirstWithout}
use Rattle.audit_graph.specs.Greens.{GreensStand, HasSameEdges, HasSamePrint, StandsIfGreen, IsLack}
use Rattle.audit_graph.specs.Steps.{IsFirstLack, setting_behind}
use Rattle.audit_graph.proofs.Entries.{all_told, entry_there, one_more, contains_there}
use Rattle.audit_graph.specs.declared.greens.Lack.{Lack}
use Rattle.audit_graph.specs.declared.greens.Lack.TheVariants.{WithoutPast, AcrossProfiles, OtherEdges, OverRed, OtherPrint}

-- a key with a lack doesn't stand in the previous session
pub lacks_something : (over : Setting) (now : Past) (r : Entry) (why : Lack) → IsLack over now r why → StandsIn over now r → ⊥
lacks_something over now r WithoutPast l st = none-some st.had (sym l ∙ kept_held over r.key st.had st.past_has)
lacks_something over now r AcrossProfiles l st = let e : true ≡ false = sym l.1 ∙ kept_kind over r.key st.had st.past_has in cc
lacks_something over now r OtherEdges l st =
    let e : l.0 ≡ st.had = same_Some _ _ (sym l.1 ∙ st.past_has) in
    l.2 (ap (λ (x : Entry). x.reads) e ∙ st.edges)
lacks_something over now r (OverRed i) l st = l.1.lacks (st.same l.1.item (contains_there r.reads i l.1.item l.1.here))
lacks_something over now r OtherPrint l st =
    l.2 (ap (option_map (λ (x : Entry). print_of x.value)) (kept_held over r.key st.had st.past_has) ∙ ap Some st.print)

-- if no lack was found, it stands there
pub stands : (over : Setting) (now : Past) (r had : Entry) → kept over r.key ≡ Some had → had.reads ≡ r.reads → AllByRecursion (HasSamePrint over.held now) r.reads
    → print_in over.held r.key ≡ Some (print_of r.value) → StandsIn over now r
stands over now r had has edges same print = record {
  had = had;
  past_has = has;
  edges = edges;
  print = same_Some _ _ (sym (ap (option_map (λ (x : Entry). print_of x.value)) (kept_held over r.key had has)) ∙ print);
  same = λ e c. all_at (HasSamePrint over.held now) r.reads same e c;
}

-- ---- edges of the previous session and of the session, one after the other

module _ (f g : ℕ → Key) (old es : List ℕ) where
  -- so far the keys are the same, and one more is
  pub same_more : (i : ℕ) → i < length old → i < length es → map f (take i old) ≡ map g (take i es) → f (get_or old i 0) ≡ g (get_or es i 0)
      → map f (take (i + 1) old) ≡ map g (take (i + 1) es)
  same_more i l m so_far same =
      ap (map f) (take_more old i 0 l) ∙ (map-append f (take i old) (get_or old i 0 ∷ [])
      ∙ (ap (λ (ks : List Key). ks ++ f (get_or old i 0) ∷ []) so_far ∙ (ap (λ (k : Key). map g (take i es) ++ k ∷ []) same
      ∙ (sym (map-append g (take i es) (get_or es i 0 ∷ [])) ∙ ap (map g) (sym (take_more es i 0 m))))))

  -- if the keys are the same, they are so at each place
  pub same_there : (i : ℕ) → i < length old → i < length es → map f old ≡ map g es → f (get_or old i 0) ≡ g (get_or es i 0)
  same_there i l m all = sym (get_or-map f old i 0 Files l) ∙ (ap (λ (ks : List Key). get_or ks i Files) all ∙ get_or-map g es i 0 Files m)

  pub same_length : map f old ≡ map g es → length old ≡ length es
  same_length all = sym (length-map old f) ∙ (ap length all ∙ length-map es g)

  -- ---- prints of edges with the same keys

  module _ (past now : Past) (all : map f old ≡ map g es) (i : ℕ) (lt : i < length es) (a b : List ℕ) (old_print : Some a ≡ print_in past (f (get_or old i 0)))
      (print : Some b ≡ print_in now (g (get_or es i 0))) (before : AllByRecursion (HasSamePrint past now) (take i (map g es))) where
    key_here : slice_get (map g es) i ≡ Some (g (get_or es i 0))
    key_here =
        let l : i < length (map g es) = omega (arith, lt, length-map es g) in
        slice_get-get_or (map g es) i Files l ∙ ap Some (get_or-map g es i 0 Files lt)

    old_here : Some a ≡ print_in past (g (get_or es i 0))
    old_here = old_print ∙ ap (print_in past) (same_there i (omega (arith, lt, same_length all)) lt all)

    pub red_here : (a ≡ b → ⊥) → IsFirstWithout (HasSamePrint past now) (map g es) i
    red_here other = record {
      item = g (get_or es i 0);
      here = key_here;
      before = before;
      lacks = λ same. other (same_Some a b (old_here ∙ (same ∙ sym print)));
    }

    pub red_more : a ≡ b → AllByRecursion (HasSamePrint past now) (take (i + 1) (map g es))
    red_more same = one_more (HasSamePrint past now) (map g es) i (g (get_or es i 0)) key_here before (sym old_here ∙ (ap Some same ∙ print))

-- ---- a record of the previous session and one of the session, of one key

-- of a kind that doesn't cross, what the previous session has is taken over
pub kept_some : (over : Setting) (q : Key) (r : Entry) → has_kind over.crossing (kind_of q) ≡ false → over.held q ≡ Some r → kept over q ≡ Some r
kept_some over q r stays has = ap (λ b. if b then None else over.held q) stays ∙ has

module _ (by_profile : Kind → Bool) (past s : SessionValue) (past_session : IsSession past) (item : RecordValue) (at : ℕ) (lt : at < length past.records)
    (has : HoldsAt (λ r. entry_at past item.key ≡ Some (entry_of past.records r)) past.records at) where
  abbrev over : Setting
  over = setting_behind by_profile (Some past) s

  abbrev had : RecordValue
  had = get_or past.records at item

  pub across_profiles : has_kind over.crossing (kind_of item.key) ≡ true → IsLack over (entry_at s) (entry_of s.records item) AcrossProfiles
  across_profiles crossing = ((entry_of past.records had, has item), crossing)

  module _ (stays : has_kind over.crossing (kind_of item.key) ≡ false) (old : List ℕ) (is : HoldsAt (λ r. old ≡ r.edges) past.records at) where
    is_kept : kept over item.key ≡ Some (entry_of past.records had)
    is_kept = kept_some over item.key (entry_of past.records had) stays (has item)

    pub other_edges : (map (key_at past.records) old ≡ map (key_at s.records) item.edges → ⊥) → IsLack over (entry_at s) (entry_of s.records item) OtherEdges
    other_edges other = (entry_of past.records had, is_kept, λ e. other (ap (map (key_at past.records)) (is item) ∙ e))

    pub same_edges : map (key_at past.records) old ≡ map (key_at s.records) item.edges → HasSameEdges over (entry_of s.records item)
    same_edges same = record { had = entry_of past.records had; past_has = is_kept; edges = ap (map (key_at past.records)) (sym (is item)) ∙ same }

    key_there : key_at past.records at ≡ item.key
    key_there = get_or-map (λ (r : RecordValue). r.key) past.records at item Files lt ∙ (session_graph past past_session).key item.key (entry_of past.records had) (has item)

    module _ (a b : List ℕ) (old_print : Some a ≡ print_in (entry_at past) (key_at past.records at)) (print : b ≡ print_of item.value) where
      pub other_print : (a ≡ b → ⊥) → print_in (entry_at past) item.key ≢ Some (print_of item.value)
      other_print other same = other (same_Some a b (old_print ∙ (ap (print_in (entry_at past)) key_there ∙ (same ∙ ap Some (sym print)))))

      pub stands_there : map (key_at past.records) old ≡ map (key_at s.records) item.edges → AllByRecursion (HasSamePrint (entry_at past) (entry_at s)) (map (key_at s.records) item.edges)
          → a ≡ b → StandsIn over (entry_at s) (entry_of s.records item)
      stands_there edges all same =
          stands over (entry_at s) (entry_of s.records item) (entry_of past.records had) is_kept (ap (map (key_at past.records)) (sym (is item)) ∙ edges) all
          (ap (print_in (entry_at past)) (sym key_there) ∙ (sym old_print ∙ ap Some (same ∙ print)))

-- ---- the first green record with a lack

module _ (over : Setting) (s : SessionValue) (n : ℕ) (x : RecordValue) (lt : n < length s.records) (is : x ≡ get_or s.records n x)
    (before : AllByRecursion (StandsIfGreen over (entry_at s)) (take n (entries s))) where
  pub lack_here : (why : Lack) → x.mark ≡ Green → IsLack over (entry_at s) (entry_of s.records x) why → IsFirstLack over s n why
  lack_here why green lack = record {
    first = record {
      item = entry_of s.records x;
      here = entry_there s n x lt is;
      before = before;
      lacks = λ h. lacks_something over (entry_at s) (entry_of s.records x) why lack (h green);
    };
    green = green;
    lack = lack;
  }

  pub stands_more : StandsIfGreen over (entry_at s) (entry_of s.records x) → AllByRecursion (StandsIfGreen over (entry_at s)) (take (n + 1) (entries s))
  stands_more h = one_more (StandsIfGreen over (entry_at s)) (entries s) n (entry_of s.records x) (entry_there s n x lt is) before h

pub greens_stand : (over : Setting) (s : SessionValue) (n : ℕ) → length s.records ≤ n → AllByRecursion (StandsIfGreen over (entry_at s)) (take n (entries s)) → GreensStand over (entry_at s)
greens_stand over s n le all q r has green =
    let l : length (entries s) ≤ n = omega (arith, le, length-map s.records (entry_of s.records)) in
    let whole = subst (AllByRecursion (StandsIfGreen over (entry_at s))) (take_all n (entries s) l) all in
    all_told (StandsIfGreen over (entry_at s)) s whole q r has green
