-- A graph whose lists are those of another keeps what the other one does, and so does one with one more place.
use Rattle.std.proofs.Common.{◌≡◌, inl, inr, ℕ, ◌<◌, Bool, true, false, List, [], ◌∷◌, ◌++◌, length, Contains, Vec, refl, sym, ap, ◌∙◌, subst, arith}
use Rattle.std.specs.List.{AllByRecursion}
use Rattle.std.specs.Arc.{arc_value}
use Rattle.std.specs.declared.alloc.Global.{Global}
use Rattle.std.specs.declared.sync.Arc.{Arc}
use Rattle.item_ids.specs.declared.key.Key.{Key}
use Rattle.result_bytes.specs.declared.value.Value.{Value}
use Rattle.recorder.specs.Projects.{Project}
use Rattle.recorder.specs.Programs.{Prog}
use Rattle.resident_graph.specs.Places.{IsEdge}
use Rattle.resident_graph.specs.Lists.{key_in, list_in, flag_in, Widens}
use Rattle.resident_graph.specs.Runs.{IsValueOf}
use Rattle.resident_graph.specs.Graphs.{places_in, Keeps, KeepsGraph, IsPushed}
use Rattle.resident_graph.specs.declared.graph.Graph.{Graph}
use Rattle.resident_graph.proofs.Adding.{added}

pub keeps_along : (prog_of : Key → Prog) (p : Project) (ks ls : List Key) (vs ws : List (Arc Value Global)) (es fs rs ss : List (Vec ℕ Global)) (qs us : List Bool) (line new : List (Vec ℕ Global))
    → ls ≡ ks → ws ≡ vs → fs ≡ es → ss ≡ rs → us ≡ qs → new ≡ line
    → Keeps prog_of p ks vs es rs qs line → Keeps prog_of p ls ws fs ss us new
keeps_along prog_of p ks ls vs ws es fs rs ss qs us line new a b c d e f keeps =
    subst (λ (x : List Key). Keeps prog_of p x ws fs ss us new) (sym a)
    (subst (λ (x : List (Arc Value Global)). Keeps prog_of p ks x fs ss us new) (sym b)
    (subst (λ (x : List (Vec ℕ Global)). Keeps prog_of p ks vs x ss us new) (sym c)
    (subst (λ (x : List (Vec ℕ Global)). Keeps prog_of p ks vs es x us new) (sym d)
    (subst (λ (x : List Bool). Keeps prog_of p ks vs es rs x new) (sym e)
    (subst (λ (x : List (Vec ℕ Global)). Keeps prog_of p ks vs es rs qs x) (sym f) keeps)))))

edges_wider : (ks : List Key) (vs : List (Arc Value Global)) (es rs ss : List (Vec ℕ Global)) (qs : List Bool) (i : ℕ) (xs : List ℕ)
    → AllByRecursion (IsEdge (places_in ks vs es rs qs) i) xs → AllByRecursion (IsEdge (places_in ks vs es ss qs) i) xs
edges_wider ks vs es rs ss qs i [] h = tt
edges_wider ks vs es rs ss qs i (x ∷ xs) h = (record { inside = h.0.inside; lower = h.0.lower }, edges_wider ks vs es rs ss qs i xs h.1)

-- places have more readers
pub keeps_wider : (prog_of : Key → Prog) (p : Project) (ks : List Key) (vs : List (Arc Value Global)) (es rs ss : List (Vec ℕ Global)) (qs : List Bool) (line : List (Vec ℕ Global))
    → Keeps prog_of p ks vs es rs qs line → length ss ≡ length rs → Widens rs ss → Keeps prog_of p ks vs es ss qs line
keeps_wider prog_of p ks vs es rs ss qs line keeps same wider = record {
  aligned = record {
    values = keeps.aligned.values;
    edges = keeps.aligned.edges;
    readers = same ∙ keeps.aligned.readers;
    queued = keeps.aligned.queued;
  };
  queue = keeps.queue;
  holds = record {
    apart = keeps.holds.apart;
    each = λ i lt. let is = keeps.holds.each i lt in record {
      kind = is.kind;
      linked = λ e has. let known = is.linked e has in (known.0, wider e i known.1);
      input = is.input;
      settled = λ above off. let settled = is.settled above off in record { follows = settled.follows; edges = edges_wider ks vs es rs ss qs i (list_in es i) settled.edges };
    };
  };
}

-- a graph with room, whose edges have the new place among their readers, and which takes one more place
pub keeps_added : (prog_of : Key → Prog) (p : Project) (ks : List Key) (vs : List (Arc Value Global)) (es rs ss : List (Vec ℕ Global)) (qs : List Bool) (line : List (Vec ℕ Global))
    (mid new : Graph) (k : Key) (a : Arc Value Global) (e readers : Vec ℕ Global)
    → Keeps prog_of p ks vs es rs qs line → length ss ≡ length rs → Widens rs ss
    → ((x : ℕ) → Contains e.items x → x < length rs → Contains (list_in ss x) (length ks))
    → mid.keys.keys ≡ ks → mid.values.items ≡ vs → mid.edges.items ≡ es → mid.readers.items ≡ ss → mid.queued.items ≡ qs → mid.queue.items ≡ line
    → IsPushed k a e readers mid new
    → IsValueOf prog_of p ks vs k (arc_value a) e.items
    → KeepsGraph prog_of p new
keeps_added prog_of p ks vs es rs ss qs line mid new k a e readers keeps same wider linked is_ks is_vs is_es is_ss is_qs is_line (inl stays) value =
    keeps_along prog_of p _ _ _ _ _ _ _ _ _ _ _ _ (stays.keys ∙ is_ks) (stays.values ∙ is_vs) (stays.edges ∙ is_es) (stays.readers ∙ is_ss) (stays.queued ∙ is_qs) (stays.queue ∙ is_line)
    (keeps_wider prog_of p ks vs es rs ss qs line keeps same wider)
keeps_added prog_of p ks vs es rs ss qs line mid new k a e readers keeps same wider linked is_ks is_vs is_es is_ss is_qs is_line (inr adds) value =
    keeps_along prog_of p _ _ _ _ _ _ _ _ _ _ _ _
    (adds.keys ∙ ap (λ (xs : List Key). xs ++ k ∷ []) is_ks)
    (adds.values ∙ ap (λ (xs : List (Arc Value Global)). xs ++ a ∷ []) is_vs)
    (adds.edge_lists ∙ ap (λ (xs : List (Vec ℕ Global)). xs ++ e ∷ []) is_es)
    (adds.reader_lists ∙ ap (λ (xs : List (Vec ℕ Global)). xs ++ readers ∷ []) is_ss)
    (adds.queued ∙ ap (λ (xs : List Bool). xs ++ false ∷ []) is_qs)
    (adds.queue ∙ is_line)
    (added prog_of p ks vs es rs qs line keeps k a e readers ss
    (λ i lt is. adds.absent i (subst (λ (xs : List Key). i < length xs) (sym is_ks) lt) (ap (λ (xs : List Key). key_in xs i) is_ks ∙ is))
    value same wider linked)

-- without places
pub keeps_nothing : (prog_of : Key → Prog) (p : Project) → Keeps prog_of p [] [] [] [] [] []
keeps_nothing prog_of p = record {
  aligned = record { values = refl; edges = refl; readers = refl; queued = refl };
  queue = λ i on. absurd (none i on);
  holds = record { apart = λ i j li lj e. absurd (omega (arith, li)); each = λ i li. absurd (omega (arith, li)) };
}
  where
    none : (i : ℕ) → flag_in [] i ≡ true → ⊥
    none i on = cc
