-- Reading items one after the other, as a loop does.
use Rattle.std.proofs.Common.{◌≡◌, ℕ, suc, ◌-◌, ◌+◌, ◌≤◌, ◌<◌, Bool, true, false, List, [], ◌∷◌, ◌++◌, length, Option, Some, None, Result, Ok, Err, refl, sym, ap, ◌∙◌, arith}
use Rattle.byte_readers.specs.declared.breach.Breach.{Breach}
use Rattle.byte_readers.specs.declared.breach.ReadError.{ReadError}
use Rattle.byte_readers.specs.declared.breach.ReadError.TheVariants as errors
use Rattle.std.specs.List.{slice_get}
use Rattle.byte_readers.specs.Orders.{is_after}
use Rattle.byte_readers.specs.Views.{ReadsAsSeen}
use Rattle.byte_readers.specs.Reading.{Decoder, Fails, not_canonical, list_from}

pub goes_on : {A : Type 0} (part : Decoder A) (admits : List A → A → Bool) (front : List A) (count i : ℕ) (bytes : List ℕ) (item : A) (after : List ℕ) (total : Result (List A × List ℕ) Breach) → i < count → part bytes ≡ Ok (item, after) → admits front item ≡ true
    → list_from part admits front (count - i) bytes ≡ total → list_from part admits (front ++ item ∷ []) (count - (i + 1)) after ≡ total
unfolding list_from
goes_on part admits front count i bytes item after total lt h admitted so_far =
    let k : count - i ≡ suc (count - (i + 1)) = omega arith in
    let one : list_from part admits front (count - i) bytes ≡ list_from part admits (front ++ item ∷ []) (count - (i + 1)) after = rw (k, h, admitted) refl in
    sym one ∙ so_far

pub is_refused : {A : Type 0} (part : Decoder A) (admits : List A → A → Bool) (front : List A) (count i : ℕ) (bytes : List ℕ) (item : A) (after : List ℕ) (total : Result (List A × List ℕ) Breach) → i < count → part bytes ≡ Ok (item, after) → admits front item ≡ false
    → list_from part admits front (count - i) bytes ≡ total → total ≡ not_canonical bytes
unfolding list_from
is_refused part admits front count i bytes item after total lt h not_so so_far =
    let k : count - i ≡ suc (count - (i + 1)) = omega arith in
    let one : list_from part admits front (count - i) bytes ≡ not_canonical bytes = rw (k, h, not_so) refl in
    sym so_far ∙ one

pub ends : {A : Type 0} (e : ReadError) (part : Decoder A) (admits : List A → A → Bool) (front : List A) (count i : ℕ) (bytes : List ℕ) (total : Result (List A × List ℕ) Breach) → i < count → Fails e (part bytes)
    → list_from part admits front (count - i) bytes ≡ total → Fails e total
unfolding list_from
ends errors.Memory part admits front count i bytes total lt h so_far = tt
ends (errors.Breach b) part admits front count i bytes total lt h so_far =
    let k : count - i ≡ suc (count - (i + 1)) = omega arith in
    let one : list_from part admits front (count - i) bytes ≡ Err b = rw (k, h) refl in
    sym so_far ∙ one

pub is_done : {A : Type 0} (part : Decoder A) (admits : List A → A → Bool) (front : List A) (count i : ℕ) (bytes : List ℕ) (total : Result (List A × List ℕ) Breach) → count ≤ i → list_from part admits front (count - i) bytes ≡ total → total ≡ Ok (front, bytes)
unfolding list_from
is_done part admits front count i bytes total le so_far =
    let k : count - i ≡ 0 = omega arith in
    let one : list_from part admits front (count - i) bytes ≡ Ok (front, bytes) = rw k refl in
    sym so_far ∙ one

abbrev after_last : {A : Type 0} → (A → A → Bool) → Option A → A → Bool
after_last precedes None b = true
after_last precedes (Some a) b = precedes a b

is_after_last : {A : Type 0} (precedes : A → A → Bool) (items : List A) (b : A) → after_last precedes (slice_get items (length items - 1)) b ≡ is_after precedes items b
is_after_last precedes [] b = refl
is_after_last precedes (a ∷ []) b = refl
is_after_last {A} precedes (a ∷ (c ∷ rest)) b =
    let one : length (a ∷ (c ∷ rest)) - 1 ≡ suc (length rest) = omega arith in
    let two : length (c ∷ rest) - 1 ≡ length rest = omega arith in
    ap (λ (n : ℕ). after_last precedes (slice_get (a ∷ (c ∷ rest)) n) b) one ∙ ap (λ (n : ℕ). after_last precedes (slice_get (c ∷ rest) n) b) (sym two) ∙ is_after_last precedes (c ∷ rest) b

pub after_some : {A : Type 0} (precedes : A → A → Bool) (items : List A) (a b : A) → Some a ≡ slice_get items (length items - 1) → is_after precedes items b ≡ precedes a b
after_some {A} precedes items a b h = sym (is_after_last precedes items b) ∙ ap (λ (o : Option A). after_last precedes o b) (sym h)

-- what ends the reading of what is seen ends that of the items
pub ends_both : {A B : Type 0} {one : A → B} {seen : Decoder B} {itself : Decoder A} (tells : ReadsAsSeen one seen itself) (e : ReadError) (bytes : List ℕ) → Fails e (seen bytes) → Fails e (itself bytes)
ends_both tells errors.Memory bytes fails = tt
ends_both tells (errors.Breach b) bytes fails = tells.refuses bytes b fails
