-- What is put into a sink, part by part.
use Rattle.std.proofs.Common.{◌≡◌, ℕ, ◌<◌, ◌≤◌, List, [], ◌∷◌, ◌++◌, length, map, Result, Ok, Err, sym, ap, subst, ◌∙◌, append_assoc, arith}
use Rattle.std.specs.List.{concat, flat_map}
use Rattle.std.proofs.lemmas.List.{append-nil}
use Rattle.std.proofs.lemmas.List.Concat.{concat_is}
use Rattle.std.proofs.lemmas.List.Folds.{flat_map-map}
use Rattle.devices.specs.Devices.{Begins}
use Rattle.devices.proofs.PutLaws.{begins_more, begins_then}
use Rattle.redgreen_words.specs.declared.fault.WriteFault.{WriteFault}
use Rattle.redgreen_words.specs.declared.fault.WriteFault.TheVariants.{LongLine, Device, OutOfMemory}
use Rattle.redgreen_words.specs.Words.{line_of, line_limit, AreSmall}
use Rattle.redgreen_words.specs.Messages.{Parts, numbers_of}
use Rattle.redgreen_words.specs.Steps.{PutsSlices, Delivers, Writes}

pub slices_deliver : {A : Type 0} (old new : List ℕ → Type 0) (a b : List ℕ) (put : Result A WriteFault) → a ≡ b → PutsSlices old new a put → Delivers old new b put
slices_deliver old new a b (Ok x) is h = λ front has. subst (λ (xs : List ℕ). new (front ++ xs)) is (h front has)
slices_deliver old new a b (Err Device) is h = λ front has. subst (Begins new front) is (h front has)
slices_deliver old new a b (Err OutOfMemory) is h = absurd h
slices_deliver old new a b (Err LongLine) is h = absurd h

pub slices_then : {A : Type 0} (old mid new : List ℕ → Type 0) (a b whole : List ℕ) (put : Result A WriteFault) → a ++ b ≡ whole → ((front : List ℕ) → old front → mid (front ++ a)) → PutsSlices mid new b put → Delivers old new whole put
slices_then old mid new a b whole (Ok x) is f h = λ front has.
    subst (λ (xs : List ℕ). new (front ++ xs)) is (subst new (append_assoc front a b) (h (front ++ a) (f front has)))
slices_then old mid new a b whole (Err Device) is f h = λ front has.
    subst (Begins new front) is (begins_then new front a b (h (front ++ a) (f front has)))
slices_then old mid new a b whole (Err OutOfMemory) is f h = absurd h
slices_then old mid new a b whole (Err LongLine) is f h = absurd h

pub slices_break : (A : Type 0) (old new : List ℕ → Type 0) (a b whole : List ℕ) (fault : WriteFault) → a ++ b ≡ whole → PutsSlices {A = A} old new a (Err fault) → Delivers {A = A} old new whole (Err fault)
slices_break A old new a b whole Device is h = λ front has. subst (Begins new front) is (begins_more new front a b (h front has))
slices_break A old new a b whole OutOfMemory is h = absurd h
slices_break A old new a b whole LongLine is h = absurd h

-- one byte string after its line
pub one_at_once : (line with_end all string : List ℕ) → with_end ≡ line ++ 10 ∷ [] → all ≡ with_end ++ string → all ++ [] ≡ line ++ (10 ∷ (string ++ []))
one_at_once line with_end all string ea eb =
    append-nil all ∙ eb ∙ ap (λ (xs : List ℕ). xs ++ string) ea ∙ append_assoc line (10 ∷ []) string
    ∙ ap (λ (xs : List ℕ). line ++ (10 ∷ xs)) (sym (append-nil string))

pub line_then : (line with_end strings : List ℕ) → with_end ≡ line ++ 10 ∷ [] → (with_end ++ []) ++ strings ≡ line ++ (10 ∷ strings)
line_then line with_end strings is =
    ap (λ (xs : List ℕ). xs ++ strings) (append-nil with_end ∙ is) ∙ append_assoc line (10 ∷ []) strings

pub delivers_writes : {A : Type 0} (old new : List ℕ → Type 0) (p : Parts) (line : List ℕ) (put : Result A WriteFault) → line ≡ line_of p.word (numbers_of p) → AreSmall (numbers_of p) → length line < line_limit → Delivers old new (line ++ (10 ∷ concat p.strings)) put → Writes old new p put
delivers_writes old new p line (Ok x) is small short h = (
  record { small = small; short = subst (λ (xs : List ℕ). length xs < line_limit) is short },
  λ front has. subst (λ (xs : List ℕ). new (front ++ (xs ++ (10 ∷ concat p.strings)))) is (h front has),
)
delivers_writes old new p line (Err Device) is small short h =
    λ front has. subst (λ (xs : List ℕ). Begins new front (xs ++ (10 ∷ concat p.strings))) is (h front has)
delivers_writes old new p line (Err OutOfMemory) is small short h = h
delivers_writes old new p line (Err LongLine) is small short h = absurd h

pub too_long_line : (old : List ℕ → Type 0) (p : Parts) (line : List ℕ) → line ≡ line_of p.word (numbers_of p) → line_limit ≤ length line → Writes {A = Unit {0}} old old p (Err LongLine)
too_long_line old p line is long =
    ((λ front has. has), λ short. let lt = subst (λ (xs : List ℕ). length xs < line_limit) (sym is) short in absurd (omega (arith, lt, long)))

pub joined_is : {A : Type 0} (v : A → List ℕ) (slices : List A) → flat_map v slices ≡ concat (map v slices)
joined_is v slices = sym (flat_map-map (λ (xs : List ℕ). xs) v slices) ∙ sym (concat_is (map v slices))
