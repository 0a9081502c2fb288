-- What is unpacked was packed, and what was packed is unpacked.
use Rattle.std.proofs.Common.{◌≡◌, ℕ, ◌^◌, ◌<◌, ◌≤◌, Bool, true, false, cond, nat_lt, List, [], ◌∷◌, ◌++◌, length, take, drop, Result, Ok, Err, refl, sym, ap, subst, ◌∙◌, append_assoc, arith}
use Rattle.std.specs.Str.{is_utf8}
use Rattle.std.specs.List.{AllByRecursion}
use Rattle.std.proofs.lemmas.Bool.{ltb-false, le-ltb}
use Rattle.std.proofs.lemmas.List.{take_at, drop_at, take-append-drop, length-append, length-take}
use Rattle.std.proofs.lemmas.List.Concat.{flat_map-cons}
use Rattle.byte_readers.specs.declared.breach.Breach.{Breach}
use Rattle.byte_readers.specs.Lawful.{IsBytes, Takes}
use Rattle.byte_readers.specs.Laws.{IsBytes-drop, Takes-then, lawful_eight}
use Rattle.byte_readers.specs.Reading.{eight_at}
use Rattle.byte_readers.specs.Spelling.{eight}
use Rattle.named_files.specs.Projects.{SourceFile}
use Rattle.packed_files.specs.Packing.{IsPackable, packed, packed_file, run}
use Rattle.packed_files.specs.Unpacking.{◌>>=◌, file_at, or_flaw, run_at, source_file}
use Rattle.packed_files.specs.declared.flaws.Flaw.{Flaw}
use Rattle.packed_files.specs.declared.flaws.Flaw.TheVariants as flaws

abbrev done : {A : Type 0} → A → Result A Flaw
done x = Ok x

pub ok_is : {A : Type 0} (x y : A) → done x ≡ done y → x ≡ y
ok_is x y e = cc

-- the value of a step that did not fail
bind_ok : {A B : Type 0} (r : Result A Flaw) (f : A → Result B Flaw) (y : B) → (r >>= f) ≡ Ok y → (x : A) × (r ≡ Ok x) × (f x ≡ Ok y)
bind_ok (Ok x) f y e = (x, refl, e)
bind_ok (Err d) f y e = absurd cc

-- a test that did not fail
guard_ok : {A : Type 0} (b : Bool) (d : Flaw) (r : Result A Flaw) (y : A) → cond b (Err d) r ≡ Ok y → (b ≡ false) × (r ≡ Ok y)
guard_ok true d r y e = absurd cc
guard_ok false d r y e = (refl, e)

guard_so : {A : Type 0} (b : Bool) (d : Flaw) (r : Result A Flaw) (y : A) → cond b r (Err d) ≡ Ok y → (b ≡ true) × (r ≡ Ok y)
guard_so true d r y e = (refl, e)
guard_so false d r y e = absurd cc

length_read : (flaw : Flaw) (r : Result (ℕ × List ℕ) Breach) (x : ℕ × List ℕ) → or_flaw flaw r ≡ Ok x → r ≡ Ok x
length_read flaw (Ok y) x e = ap Ok (ok_is y x e)
length_read flaw (Err breach) x e = absurd cc

-- ---- runs

taken : (n : ℕ) (bytes text : List ℕ) → n ≤ length bytes → take n bytes ≡ text → length text ≡ n
taken n bytes text long is =
    let len : length (take n bytes) ≡ n = omega (arith, length-take n bytes) in
    sym (ap length is) ∙ len

split_takes : (n : ℕ) (bytes text rest : List ℕ) → IsBytes bytes → take n bytes ≡ text → drop n bytes ≡ rest → Takes bytes text rest
split_takes n bytes text rest fits front behind = record {
  parts = sym (take-append-drop n bytes) ∙ ap (λ (t : List ℕ). t ++ drop n bytes) front ∙ ap (λ (t : List ℕ). text ++ t) behind;
  rest_fits = subst IsBytes behind (IsBytes-drop n bytes fits);
}

run_behind : (bytes after text rest : List ℕ) (n : ℕ) → Takes bytes (eight n) after → n < 2 ^ 64 → n ≤ length after → take n after ≡ text → drop n after ≡ rest
    → Takes bytes (run text) rest × (length text < 2 ^ 64)
run_behind bytes after text rest n t small long front behind =
    let len = taken n after text long front in
    let whole = Takes-then bytes (eight n) after text rest t (split_takes n after text rest t.rest_fits front behind) in
    (subst (λ (k : ℕ). Takes bytes (eight k ++ text) rest) (sym len) whole, omega (arith, len, small))

pub run_takes : (none cut : Flaw) (bytes text rest : List ℕ) → IsBytes bytes → run_at none cut bytes ≡ Ok (text, rest) → Takes bytes (run text) rest × (length text < 2 ^ 64)
unfolding run_at
run_takes none cut bytes text rest fits e =
    let n = bind_ok (or_flaw none (eight_at bytes)) (λ n. cond (nat_lt (length n.1) n.0) (Err cut) (Ok (take n.0 n.1, drop n.0 n.1))) (text, rest) e in
    let t = lawful_eight.takes bytes n.0.0 n.0.1 fits (length_read none (eight_at bytes) n.0 n.1) in
    let g = guard_ok (nat_lt (length n.0.1) n.0.0) cut (Ok (take n.0.0 n.0.1, drop n.0.0 n.0.1)) (text, rest) n.2 in
    let pair = ok_is (take n.0.0 n.0.1, drop n.0.0 n.0.1) (text, rest) g.1 in
    run_behind bytes n.0.1 text rest n.0.0 t.0 t.1 (ltb-false _ _ g.0) (ap (λ (p : List ℕ × List ℕ). p.0) pair) (ap (λ (p : List ℕ × List ℕ). p.1) pair)

pub run_again : (none cut : Flaw) (text rest : List ℕ) → length text < 2 ^ 64 → run_at none cut (run text ++ rest) ≡ Ok (text, rest)
unfolding run_at
run_again none cut text rest short =
    let long : nat_lt (length (text ++ rest)) (length text) ≡ false = le-ltb _ _ (omega (arith, length-append text rest)) in
    ap (run_at none cut) (append_assoc (eight (length text)) text rest)
    ∙ rw (lawful_eight.again (length text) (text ++ rest) short, long, take_at text rest (length text) refl, drop_at text rest (length text) refl) refl

eight_length : (n : ℕ) → length (eight n) ≡ 8
unfolding eight
eight_length n = refl

pub some_run : (text rest : List ℕ) → 0 < length (run text ++ rest)
some_run text rest = omega (arith, eight_length (length text), length-append (run text) rest, length-append (eight (length text)) text)

-- ---- files

pub file_takes : (bytes : List ℕ) (file : SourceFile) (rest : List ℕ) → IsBytes bytes → file_at bytes ≡ Ok (file, rest) → Takes bytes (packed_file file) rest × IsPackable file
unfolding file_at
file_takes bytes file rest fits e =
    let name = bind_ok (run_at flaws.NameLength flaws.Name bytes) (λ name. cond (is_utf8 name.0) (run_at flaws.Length flaws.Bytes name.1 >>= λ text. Ok (source_file name.0 text.0, text.1)) (Err flaws.NotText)) (file, rest) e in
    let g = guard_so (is_utf8 name.0.0) flaws.NotText (run_at flaws.Length flaws.Bytes name.0.1 >>= λ text. Ok (source_file name.0.0 text.0, text.1)) (file, rest) name.2 in
    let text = bind_ok (run_at flaws.Length flaws.Bytes name.0.1) (λ text. Ok (source_file name.0.0 text.0, text.1)) (file, rest) g.1 in
    let t = run_takes flaws.NameLength flaws.Name bytes name.0.0 name.0.1 fits name.1 in
    let u = run_takes flaws.Length flaws.Bytes name.0.1 text.0.0 text.0.1 t.0.rest_fits text.1 in
    let both : Takes bytes (packed_file (source_file name.0.0 text.0.0)) text.0.1 = Takes-then bytes (run name.0.0) name.0.1 (run text.0.0) text.0.1 t.0 u.0 in
    let fit : IsPackable (source_file name.0.0 text.0.0) = record { text = g.0; name = t.1; bytes = u.1 } in
    subst (λ (y : SourceFile × List ℕ). Takes bytes (packed_file y.0) y.1 × IsPackable y.0) (ok_is (source_file name.0.0 text.0.0, text.0.1) (file, rest) text.2) (both, fit)

pub file_again : (file : SourceFile) (rest : List ℕ) → IsPackable file → file_at (packed_file file ++ rest) ≡ Ok (file, rest)
unfolding file_at
file_again file rest fit =
    ap file_at (append_assoc (run file.name) (run file.bytes) rest)
    ∙ rw (run_again flaws.NameLength flaws.Name file.name (run file.bytes ++ rest) fit.name, fit.text, run_again flaws.Length flaws.Bytes file.bytes rest fit.bytes) refl

-- ---- lists of files

cons_packed : (file : SourceFile) (files : List SourceFile) (rest : List ℕ) → packed (file ∷ files) ++ rest ≡ packed_file file ++ (packed files ++ rest)
cons_packed file files rest = ap (λ (t : List ℕ). t ++ rest) (flat_map-cons packed_file file files) ∙ append_assoc (packed_file file) (packed files) rest

pub packed_more : (files : List SourceFile) (file : SourceFile) (rest : List ℕ) → packed (files ++ file ∷ []) ++ rest ≡ packed files ++ (packed_file file ++ rest)
packed_more [] file rest = cons_packed file [] rest
packed_more (first ∷ files) file rest =
    cons_packed first (files ++ file ∷ []) rest ∙ ap (λ (t : List ℕ). packed_file first ++ t) (packed_more files file rest) ∙ sym (cons_packed first files (packed_file file ++ rest))

pub packable_more : (files : List SourceFile) (file : SourceFile) → AllByRecursion IsPackable files → IsPackable file → AllByRecursion IsPackable (files ++ file ∷ [])
packable_more [] file all fit = (fit, tt)
packable_more (first ∷ files) file all fit = (all.0, packable_more files file all.1 fit)

pub some_packed : (file : SourceFile) (rest : List ℕ) → 0 < length (packed_file file ++ rest)
some_packed file rest = omega (
  arith,
  eight_length (length file.name),
  length-append (packed_file file) rest,
  length-append (run file.name) (run file.bytes),
  length-append (eight (length file.name)) file.name,
)

-- Of files that are packed, these stand behind the first ones.
pub record Behind (files front : List SourceFile) (rest : List ℕ) : Type 0 where
  pub more : List SourceFile
  pub files_are : files ≡ front ++ more
  pub packable : AllByRecursion IsPackable more
  pub packed_is : packed more ≡ rest

pub behind : (files front : List SourceFile) (rest : List ℕ) → AllByRecursion IsPackable files → AllByRecursion IsPackable front → packed files ≡ packed front ++ rest → Behind files front rest
behind files [] rest fit all e = record { more = files; files_are = refl; packable = fit; packed_is = e }
behind [] (f ∷ front) rest fit all e = absurd (omega (arith, some_packed f (packed front ++ rest), ap length (e ∙ cons_packed f front rest)))
behind (g ∷ files) (f ∷ front) rest fit all e =
    let same : packed_file g ++ packed files ≡ packed_file f ++ (packed front ++ rest) = sym (flat_map-cons packed_file g files) ∙ e ∙ cons_packed f front rest in
    let pair = ok_is (g, packed files) (f, packed front ++ rest) (sym (file_again g (packed files) fit.0) ∙ ap file_at same ∙ file_again f (packed front ++ rest) all.0) in
    let first : g ≡ f = ap (λ (p : SourceFile × List ℕ). p.0) pair in
    let others = behind files front rest fit.1 all.1 (ap (λ (p : SourceFile × List ℕ). p.1) pair) in
    record {
      more = others.more;
      files_are = ap (λ (x : List SourceFile). g ∷ x) others.files_are ∙ ap (λ (x : SourceFile). x ∷ (front ++ others.more)) first;
      packable = others.packable;
      packed_is = others.packed_is;
    }
