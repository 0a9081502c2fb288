-- The items that values are made of: what is read is spelled there, and each spelling is read back.
use Rattle.std.proofs.Common.{◌≡◌, ℕ, zero, suc, ◌<◌, ◌≤◌, Bool, true, false, cond, eqb, ltb, List, [], ◌∷◌, ◌++◌, length, take, drop, Result, Ok, Err, refl, sym, ap, subst, ◌∙◌, append_assoc, arith}
use Rattle.std.specs.Prelude.{◌≢◌}
use Rattle.std.specs.List.{flat_map}
use Rattle.std.proofs.lemmas.Bool.{ltb-false, le-ltb, eqb-false, ne_eqb, or_parts, not-true}
use Rattle.std.proofs.lemmas.List.{take_at, drop_at, take-append-drop, length-append, length-take-le}
use Rattle.ordered_names.proofs.Alike.{nowhere}
use Rattle.byte_readers.specs.declared.breach.Breach.{Breach}
use Rattle.byte_readers.specs.declared.breach.Breach.TheVariants.{Short, NotCanonical}
use Rattle.byte_readers.specs.Spelling.{eight, name, list}
use Rattle.byte_readers.specs.Reading.{not_canonical, any, eight_at, name_at, list_from}
use Rattle.byte_readers.specs.Lawful.{IsBytes, Takes, Lawful}
use Rattle.byte_readers.specs.Laws.{IsBytes-drop, bind_ok, guard_ok, guard_so, ok_is, Takes-then, made_again, lawful_eight, lawful_name, lawful_pair, lawful_option, lawful_list, list_takes, list_again, whole_list, lawful_made, lawful_where, any_admits}
use Rattle.steps_values.specs.Canon.{text, step, plan}
use Rattle.named_files.specs.Projects.{most_files}
use Rattle.steps_values.specs.Storable.{FileNamesFit, TextFits, StepFits, PlanFits}
use Rattle.steps_values.specs.Reading.{is_new, is_file_count, file_names_at, text_at, step_value, step_at, plan_at}
use Rattle.steps_values.specs.Distinct.{to_distinct, from_distinct}

abbrev done : {A : Type 0} → A → Result A Breach
done x = Ok x

-- ---- names of files

some_few : (n : ℕ) → is_file_count n ≡ true → (0 < n) × (n ≤ most_files)
some_few n e =
    let f = or_parts (eqb n 0) (ltb most_files n) (not-true _ e) in
    let some : n ≢ 0 = eqb-false n 0 f.0 in
    (omega (arith, some), ltb-false _ _ f.1)

is_some_few : (n : ℕ) → 0 < n → n ≤ most_files → is_file_count n ≡ true
is_some_few n some few =
    let a : eqb n 0 ≡ false = ne_eqb n 0 (λ e. omega (arith, e, some)) in
    let b : ltb most_files n ≡ false = le-ltb _ _ few in
    rw (a, b) refl

file_names_takes : (bytes : List ℕ) (names : List (List ℕ)) (rest : List ℕ) → IsBytes bytes
    → file_names_at bytes ≡ Ok (names, rest)
    → Takes bytes (list name names) rest × FileNamesFit names
unfolding file_names_at
file_names_takes bytes names rest fits e =
    let n =
    bind_ok (eight_at bytes) (λ n. cond (is_file_count n.0)
    (list_from name_at is_new [] n.0 n.1) (not_canonical bytes)) (names, rest) e in
    let g =
    guard_so (is_file_count n.0.0) (NotCanonical (length bytes))
    (list_from name_at is_new [] n.0.0 n.0.1) (names, rest) n.2 in
    let t = lawful_eight.takes bytes n.0.0 n.0.1 fits n.1 in
    let u = list_takes lawful_name is_new n.0.0 [] n.0.1 names rest t.0.rest_fits g.1 in
    let w = whole_list lawful_name is_new bytes n.0.0 n.0.1 names rest t.0 t.1 u in
    let count = some_few n.0.0 g.0 in
    let len : length names ≡ n.0.0 = ap length (sym u.whole_is) ∙ u.count_is in (
      w.0,
      record {
        some = omega (arith, len, count.0);
        few = omega (arith, len, count.1);
        each = w.1.fit;
        distinct = to_distinct [] names w.1.admitted;
      },
    )

file_names_again : (names : List (List ℕ)) (rest : List ℕ) → FileNamesFit names
    → file_names_at (list name names ++ rest) ≡ Ok (names, rest)
unfolding file_names_at
file_names_again names rest h =
    ap file_names_at (append_assoc (eight (length names)) (flat_map name names) rest)
    ∙ rw (
      lawful_eight.again (length names) (flat_map name names ++ rest) (omega (arith, h.few)),
      is_some_few (length names) h.some h.few,
    )
    (list_again lawful_name is_new names [] rest h.each
    (from_distinct [] names (λ x k c. nowhere x k) h.distinct))

pub lawful_file_names : Lawful file_names_at (list name) FileNamesFit
lawful_file_names = record { takes = file_names_takes; again = file_names_again }

-- ---- bytes of files

text_takes : (bytes text1 rest : List ℕ) → IsBytes bytes → text_at bytes ≡ Ok (text1, rest)
    → Takes bytes (text text1) rest × TextFits text1
unfolding text_at
text_takes bytes text1 rest fits e =
    let n =
    bind_ok (eight_at bytes) (λ n. cond (ltb (length n.1) n.0) (Err Short)
    (Ok (take n.0 n.1, drop n.0 n.1))) (text1, rest) e in
    let t = lawful_eight.takes bytes n.0.0 n.0.1 fits n.1 in
    let g =
    guard_ok (ltb (length n.0.1) n.0.0) Short (Ok (take n.0.0 n.0.1, drop n.0.0 n.0.1))
    (text1, rest) n.2 in
    let is = ok_is (take n.0.0 n.0.1, drop n.0.0 n.0.1) (text1, rest) g.1 in
    let front : take n.0.0 n.0.1 ≡ text1 = ap (λ (x : List ℕ × List ℕ). x.0) is in
    let back : drop n.0.0 n.0.1 ≡ rest = ap (λ (x : List ℕ × List ℕ). x.1) is in
    let len : length text1 ≡ n.0.0 =
    ap length (sym front) ∙ length-take-le n.0.0 n.0.1 (ltb-false _ _ g.0) in
    let inner : Takes n.0.1 text1 rest =
    record {
      parts = sym (take-append-drop n.0.0 n.0.1)
          ∙ ap (λ (x : List ℕ). x ++ drop n.0.0 n.0.1) front ∙ ap (λ (x : List ℕ). text1 ++ x) back;
      rest_fits = subst IsBytes back (IsBytes-drop n.0.0 n.0.1 t.0.rest_fits);
    } in (
      subst (λ (k : ℕ). Takes bytes (eight k ++ text1) rest) (sym len)
          (Takes-then bytes (eight n.0.0) n.0.1 text1 rest t.0 inner),
      omega (arith, len, t.1),
    )

text_again : (text1 rest : List ℕ) → TextFits text1
    → text_at (text text1 ++ rest) ≡ Ok (text1, rest)
unfolding text_at
text_again text1 rest h =
    let long : ltb (length (text1 ++ rest)) (length text1) ≡ false =
    le-ltb _ _ (omega (arith, length-append text1 rest)) in
    ap text_at (append_assoc (eight (length text1)) text1 rest)
    ∙ rw (
      lawful_eight.again (length text1) (text1 ++ rest) h,
      long,
      take_at text1 rest (length text1) refl,
      drop_at text1 rest (length text1) refl,
    ) refl

pub lawful_text : Lawful text_at text TextFits
lawful_text = record { takes = text_takes; again = text_again }

-- ---- steps and plans

pub lawful_step : Lawful step_at step StepFits
unfolding step_at
lawful_step =
    lawful_where (lawful_made (lawful_pair lawful_name (lawful_list lawful_name any)) step_value
    (λ s. (s.name, s.reads)) (λ _. refl) (λ _. refl))
    (λ s f. record { name = f.0; few = f.1.few; reads = f.1.fit })
    (λ s f. (f.name, record { few = f.few; fit = f.reads; admitted = any_admits [] s.reads }))

pub lawful_plan : Lawful plan_at plan PlanFits
unfolding plan_at
lawful_plan =
    lawful_where (lawful_list lawful_step any)
    (λ p f. record { few = f.few; steps = f.fit })
    (λ p f. record { few = f.few; fit = f.steps; admitted = any_admits [] p })
