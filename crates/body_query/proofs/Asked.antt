-- The reads of a check, and their results.
use Rattle.std.proofs.Common.{◌≡◌, ℕ, List, [], ◌∷◌, ◌++◌, Option, Some, None, refl, sym, ap, ap₂, ◌∙◌, append_assoc, if◌then◌else◌}
use Rattle.std.proofs.lemmas.List.{append-nil}
use Rattle.item_ids.specs.declared.key.Key.{Key}
use Rattle.item_ids.specs.declared.key.Key.TheVariants as keys
use Rattle.mj_tree.specs.Trees.{Name, Statement, Statements, Block, If, While, Print, Assign, Store, done, next, Method, Main}
use Rattle.mj_tree.specs.declared.tree.Ty.{Ty}
use Rattle.mj_tree.specs.declared.tree.Ty.TheVariants as types
use Rattle.mj_tree.specs.declared.tree.Variable.{Variable}
use Rattle.mj_phrases.specs.declared.verdict.Verdict.{Verdict}
use Rattle.mj_phrases.specs.declared.verdict.Mistake.{Mistake}
use Rattle.mj_phrases.specs.Inquiries.{World, Inquiry, Concludes, AsksDescent, AsksField, AsksMethod, AsksDeclared, conclusion, and_then}
use Rattle.mj_phrases.specs.Phrases.{Phrase, Phrases, phrase, nothing, part, Finding, finding_of, own_step, phrase_step, parts_step, type_of, types_of, verdict_by, and_type, add_faults, add_all, add_each, mistakes_step}
use Rattle.mj_phrases.specs.Steps.{Check}
use Rattle.mj_phrases.specs.Table.{Scope, own_phrase, statement_phrases, statements_phrases, return_phrase, method_scope, main_scope, method_phrases, main_phrases}
use Rattle.mj_phrases.specs.Variables.{variables_of, add_repeated_each}
use Rattle.mj_typing.specs.Bodies.{return_type_mark, add_undeclared, add_undeclared_each, type_step, types_step, statement_step, statements_step, declared_step, method_step, main_step, method_check, main_check}
use Rattle.result_bytes.specs.declared.value.Value.{Value}
use Rattle.recorder.specs.Programs.{Prog, Ret, runs, asks}
use Rattle.recorder.specs.Backed.{is_seen}
use Rattle.query_rules.specs.BodyReads.{type_reads, types_reads}
use Rattle.query_rules.specs.Reads.{first_keys}
use Rattle.mj_typing.proofs.Checks.{add_each-append}
use Rattle.body_questions.specs.Classes.{is_declared_in, descends_in}
use Rattle.body_questions.specs.Members.{field_in, method_in}
use Rattle.body_query.specs.Programs.{reads_of}

-- what the answers of a meaning say
abbrev pub world_in : (Key → Value) → World
world_in m = record {
  descends = λ c d. descends_in (m (keys.Supers c)) d;
  field = λ c x. field_in (m (keys.Members c)) x;
  method = λ c x. method_in (m (keys.Members c)) x;
  is_declared = λ c. is_declared_in (m (keys.Header c));
}

-- the keys that are asked, one after the other, repeated ones too
abbrev pub asked_in : {R : Type 0} → World → Inquiry R → List Key
asked_in w (Concludes r) = []
asked_in w (AsksDescent c d f) = keys.Supers c ∷ asked_in w (f (w.descends c d))
asked_in w (AsksField c x f) = keys.Members c ∷ asked_in w (f (w.field c x))
asked_in w (AsksMethod c m f) = keys.Members c ∷ asked_in w (f (w.method c m))
asked_in w (AsksDeclared c f) = keys.Header c ∷ asked_in w (f (w.is_declared c))

-- ---- the keys of phrases

abbrev pub own_reads : World → (List Ty → Inquiry Verdict) → Option (List Ty) → List Key
own_reads w row None = []
own_reads w row (Some ts) = asked_in w (row ts)

-- a phrase: its parts' in their order, then, if all have types, its own
abbrev mutual
  pub phrase_reads : World → Phrase → List Key
  phrase_reads w (phrase mark row parts) = parts_reads w parts ++ own_reads w row (types_of w parts)

  pub parts_reads : World → Phrases → List Key
  parts_reads w nothing = []
  parts_reads w (part p ps) = phrase_reads w p ++ parts_reads w ps

abbrev pub each_reads : World → List Phrase → List Key
each_reads w [] = []
each_reads w (p ∷ ps) = phrase_reads w p ++ each_reads w ps

abbrev pub method_keys : World → Name → Method → List Key
method_keys w c m = type_reads m.returns ++ (types_reads m.formals ++ (types_reads m.locals ++ each_reads w (method_phrases c m)))

abbrev pub main_keys : World → Main → List Key
main_keys w m = each_reads w (main_phrases m)

-- ---- a check as a program

module _ (m : Key → Value) where
  pub runs_reads : (i : Check) (k : List Mistake → Prog) → runs (reads_of i k) m ≡ runs (k (conclusion (world_in m) i)) m
  unfolding runs reads_of
  runs_reads (Concludes ms) k = refl
  runs_reads (AsksDescent c d f) k = runs_reads (f (descends_in (m (keys.Supers c)) d)) k
  runs_reads (AsksField c x f) k = runs_reads (f (field_in (m (keys.Members c)) x)) k
  runs_reads (AsksMethod c x f) k = runs_reads (f (method_in (m (keys.Members c)) x)) k
  runs_reads (AsksDeclared c f) k = runs_reads (f (is_declared_in (m (keys.Header c)))) k

  both : (seen : List Key) (k : Key) (a b c d : List Key) → a ≡ b → c ≡ d → (if is_seen seen k then a else k ∷ c) ≡ (if is_seen seen k then b else k ∷ d)
  both seen k a b c d e f = ap₂ (λ x y. if is_seen seen k then x else k ∷ y) e f

  pub asks_reads : (i : Check) (value : List Mistake → Value) (seen : List Key) → asks (reads_of i (λ ms. Ret (value ms))) m seen ≡ first_keys seen (asked_in (world_in m) i)
  unfolding asks reads_of
  asks_reads (Concludes ms) value seen = refl
  asks_reads (AsksDescent c d f) value seen = both seen (keys.Supers c) _ _ _ _ (asks_reads (f (descends_in (m (keys.Supers c)) d)) value seen) (asks_reads (f (descends_in (m (keys.Supers c)) d)) value (seen ++ keys.Supers c ∷ []))
  asks_reads (AsksField c x f) value seen = both seen (keys.Members c) _ _ _ _ (asks_reads (f (field_in (m (keys.Members c)) x)) value seen) (asks_reads (f (field_in (m (keys.Members c)) x)) value (seen ++ keys.Members c ∷ []))
  asks_reads (AsksMethod c x f) value seen = both seen (keys.Members c) _ _ _ _ (asks_reads (f (method_in (m (keys.Members c)) x)) value seen) (asks_reads (f (method_in (m (keys.Members c)) x)) value (seen ++ keys.Members c ∷ []))
  asks_reads (AsksDeclared c f) value seen = both seen (keys.Header c) _ _ _ _ (asks_reads (f (is_declared_in (m (keys.Header c)))) value seen) (asks_reads (f (is_declared_in (m (keys.Header c)))) value (seen ++ keys.Header c ∷ []))

-- ---- the keys that a body asks

pub asked-and_then : {R S : Type 0} (w : World) (i : Inquiry R) (f : R → Inquiry S) → asked_in w (and_then i f) ≡ asked_in w i ++ asked_in w (f (conclusion w i))
asked-and_then w (Concludes r) f = refl
asked-and_then w (AsksDescent c d k) f = ap (λ ks. keys.Supers c ∷ ks) (asked-and_then w (k (w.descends c d)) f)
asked-and_then w (AsksField c x k) f = ap (λ ks. keys.Members c ∷ ks) (asked-and_then w (k (w.field c x)) f)
asked-and_then w (AsksMethod c m k) f = ap (λ ks. keys.Members c ∷ ks) (asked-and_then w (k (w.method c m)) f)
asked-and_then w (AsksDeclared c k) f = ap (λ ks. keys.Header c ∷ ks) (asked-and_then w (k (w.is_declared c)) f)

module _ (w : World) where
  own_asked : (mark : ℕ) (row : List Ty → Inquiry Verdict) (types : Option (List Ty)) (mistakes : List Mistake) (k : Finding Ty → Check) → asked_in w (own_step mark row (record { type = types; mistakes = mistakes }) k) ≡ own_reads w row types ++ asked_in w (k (finding_of mistakes mark (verdict_by w row types)))
  own_asked mark row None mistakes k = refl
  own_asked mark row (Some ts) mistakes k = asked-and_then w (row ts) (λ verdict. k (finding_of mistakes mark verdict))

  mutual
    unfolding phrase_step parts_step

    phrase_asked : (p : Phrase) (mistakes : List Mistake) (k : Finding Ty → Check) → asked_in w (phrase_step p mistakes k) ≡ phrase_reads w p ++ asked_in w (k (record { type = type_of w p; mistakes = add_faults w mistakes p }))
    phrase_asked (phrase mark row parts) mistakes k =
        parts_asked parts mistakes (λ found. own_step mark row found k)
        ∙ ap (λ ks. parts_reads w parts ++ ks) (own_asked mark row (types_of w parts) (add_all w mistakes parts) k)
        ∙ sym (append_assoc (parts_reads w parts) (own_reads w row (types_of w parts)) (asked_in w (k (finding_of (add_all w mistakes parts) mark (verdict_by w row (types_of w parts))))))

    parts_asked : (ps : Phrases) (mistakes : List Mistake) (k : Finding (List Ty) → Check) → asked_in w (parts_step ps mistakes k) ≡ parts_reads w ps ++ asked_in w (k (record { type = types_of w ps; mistakes = add_all w mistakes ps }))
    parts_asked nothing mistakes k = refl
    parts_asked (part p ps) mistakes k =
        phrase_asked p mistakes (λ first. parts_step ps first.mistakes (λ others. k (record { type = and_type first.type others.type; mistakes = others.mistakes })))
        ∙ ap (λ ks. phrase_reads w p ++ ks) (parts_asked ps (add_faults w mistakes p) (λ others. k (record { type = and_type (type_of w p) others.type; mistakes = others.mistakes })))
        ∙ sym (append_assoc (phrase_reads w p) (parts_reads w ps) _)

  pub each_reads-append : (ps qs : List Phrase) → each_reads w (ps ++ qs) ≡ each_reads w ps ++ each_reads w qs
  each_reads-append [] qs = refl
  each_reads-append (p ∷ ps) qs = ap (λ ks. phrase_reads w p ++ ks) (each_reads-append ps qs) ∙ sym (append_assoc (phrase_reads w p) (each_reads w ps) (each_reads w qs))

  joined : (xs ys zs ws : List Key) → ys ≡ zs ++ ws → xs ++ ys ≡ (xs ++ zs) ++ ws
  joined xs ys zs ws e = ap (λ l. xs ++ l) e ∙ sym (append_assoc xs zs ws)

  mutual
    unfolding statement_step statements_step

    statement_asked : (s : Scope) (a : Statement) (mistakes : List Mistake) (k : List Mistake → Check) → asked_in w (statement_step s a mistakes k) ≡ each_reads w (statement_phrases s a) ++ asked_in w (k (add_each w mistakes (statement_phrases s a)))
    statement_asked s (Block mark body) mistakes k =
        let own = own_phrase s (Block mark body) in
        phrase_asked own mistakes (λ found. statements_step s body found.mistakes k)
        ∙ joined (phrase_reads w own) _ (each_reads w (statements_phrases s body)) _ (statements_asked s body (add_faults w mistakes own) k)
    statement_asked s (If mark e a b) mistakes k =
        let own = own_phrase s (If mark e a b) in
        let ms = add_each w (add_faults w mistakes own) (statement_phrases s a) in
        phrase_asked own mistakes (λ found. statement_step s a found.mistakes (λ others. statement_step s b others k))
        ∙ joined (phrase_reads w own) _ (each_reads w (statement_phrases s a ++ statement_phrases s b)) _
        (statement_asked s a (add_faults w mistakes own) (λ others. statement_step s b others k)
        ∙ joined (each_reads w (statement_phrases s a)) _ (each_reads w (statement_phrases s b)) _ (statement_asked s b ms k)
        ∙ ap₂ (λ ks more. ks ++ asked_in w (k more)) (sym (each_reads-append (statement_phrases s a) (statement_phrases s b))) (sym (add_each-append w (add_faults w mistakes own) (statement_phrases s a) (statement_phrases s b))))
    statement_asked s (While mark e a) mistakes k =
        let own = own_phrase s (While mark e a) in
        phrase_asked own mistakes (λ found. statement_step s a found.mistakes k)
        ∙ joined (phrase_reads w own) _ (each_reads w (statement_phrases s a)) _ (statement_asked s a (add_faults w mistakes own) k)
    statement_asked s (Print mark e) mistakes k = let own = own_phrase s (Print mark e) in phrase_asked own mistakes (λ found. k found.mistakes) ∙ joined (phrase_reads w own) _ [] _ refl
    statement_asked s (Assign mark x x_mark e) mistakes k = let own = own_phrase s (Assign mark x x_mark e) in phrase_asked own mistakes (λ found. k found.mistakes) ∙ joined (phrase_reads w own) _ [] _ refl
    statement_asked s (Store mark x x_mark i e) mistakes k = let own = own_phrase s (Store mark x x_mark i e) in phrase_asked own mistakes (λ found. k found.mistakes) ∙ joined (phrase_reads w own) _ [] _ refl

    statements_asked : (s : Scope) (ss : Statements) (mistakes : List Mistake) (k : List Mistake → Check) → asked_in w (statements_step s ss mistakes k) ≡ each_reads w (statements_phrases s ss) ++ asked_in w (k (add_each w mistakes (statements_phrases s ss)))
    statements_asked s done mistakes k = refl
    statements_asked s (next a ss) mistakes k =
        statement_asked s a mistakes (λ more. statements_step s ss more k)
        ∙ joined (each_reads w (statement_phrases s a)) _ (each_reads w (statements_phrases s ss)) _ (statements_asked s ss (add_each w mistakes (statement_phrases s a)) k)
        ∙ ap₂ (λ ks more. ks ++ asked_in w (k more)) (sym (each_reads-append (statement_phrases s a) (statements_phrases s ss))) (sym (add_each-append w mistakes (statement_phrases s a) (statements_phrases s ss)))

  type_asked : (mark : ℕ) (t : Ty) (mistakes : List Mistake) (k : List Mistake → Check) → asked_in w (type_step mark t mistakes k) ≡ type_reads t ++ asked_in w (k (add_undeclared w mistakes mark t))
  type_asked mark types.Int mistakes k = refl
  type_asked mark types.Boolean mistakes k = refl
  type_asked mark types.IntArray mistakes k = refl
  type_asked mark (types.Class c) mistakes k = refl

  types_asked : (vs : List Variable) (mistakes : List Mistake) (k : List Mistake → Check) → asked_in w (types_step vs mistakes k) ≡ types_reads vs ++ asked_in w (k (add_undeclared_each w mistakes vs))
  unfolding types_step
  types_asked [] mistakes k = refl
  types_asked (v ∷ vs) mistakes k = type_asked v.mark v.ty mistakes (λ more. types_step vs more k) ∙ joined (type_reads v.ty) _ (types_reads vs) _ (types_asked vs (add_undeclared w mistakes v.mark v.ty) k)

  pub main_asked : (m : Main) → asked_in w (main_check m) ≡ main_keys w m
  unfolding main_check main_step
  main_asked m = statement_asked main_scope m.statement [] (λ mistakes. Concludes mistakes) ∙ append-nil (main_keys w m)

  pub method_asked : (class : Name) (m : Method) → asked_in w (method_check class m) ≡ method_keys w class m
  unfolding method_check method_step declared_step
  method_asked class m =
      let s : Scope = method_scope class m in
      let repeated = add_repeated_each [] [] (variables_of m) in
      let a = add_undeclared w repeated return_type_mark m.returns in
      let b = add_undeclared_each w a m.formals in
      let c = add_undeclared_each w b m.locals in
      let d = add_each w c (statements_phrases s m.body) in
      let last = return_phrase s m.return_mark m.returns m.returned in
      let after : List Mistake → Check = λ c. mistakes_step last c (λ mistakes. Concludes mistakes) in
      type_asked return_type_mark m.returns repeated (λ a. types_step m.formals a (λ b. types_step m.locals b (λ c. statements_step s m.body c after)))
      ∙ ap (λ ks. type_reads m.returns ++ ks)
      (types_asked m.formals a (λ b. types_step m.locals b (λ c. statements_step s m.body c after))
      ∙ ap (λ ks. types_reads m.formals ++ ks)
      (types_asked m.locals b (λ c. statements_step s m.body c after)
      ∙ ap (λ ks. types_reads m.locals ++ ks)
      (statements_asked s m.body c after
      ∙ ap (λ ks. each_reads w (statements_phrases s m.body) ++ ks) (phrase_asked last d (λ found. Concludes found.mistakes))
      ∙ sym (each_reads-append (statements_phrases s m.body) (last ∷ [])))))
