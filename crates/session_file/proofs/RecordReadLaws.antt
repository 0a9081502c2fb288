-- Records: what is read is spelled there, and each spelling is read back.
use Rattle.std.proofs.Common.{◌≡◌, ◌≢◌, ℕ, ◌-◌, ◌<◌, ◌^◌, Bool, true, false, cond, List, [], ◌∷◌, ◌++◌, length, Option, Some, None, Result, Ok, Err, refl, sym, ap, subst, ◌∙◌, append_assoc, arith}
use Rattle.std.specs.Prelude.{slice_get, bytes_eq, IfSome}
use Rattle.std.specs.List.{flat_map}
use Rattle.std.specs.Cmp.{booleans_Decides}
use Rattle.std.proofs.lemmas.Option.{cond_some}
use Rattle.std.proofs.lemmas.Slice.Eq.{bytes_eq-Decides}
use Rattle.sha2.proofs.Facts256.{length-sha256}
use Rattle.item_ids.specs.declared.kind.Kind.{Kind}
use Rattle.item_ids.specs.declared.key.Key.{Key}
use Rattle.item_ids.specs.Kinds.{number_of}
use Rattle.item_ids.specs.Keys.{kind_of, class_text, member_text, key_cmp, IsKey}
use Rattle.item_ids.specs.Inputs.{is_input}
use Rattle.byte_readers.specs.Lawful.{IsBytes, Takes}
use Rattle.byte_readers.specs.Laws.{Takes-then, lawful_eight}
use Rattle.byte_readers.specs.Spelling.{eight, name, list}
use Rattle.byte_readers.specs.Reading.{byte_at, eight_at}
use Rattle.result_bytes.specs.declared.refusal.Refusal.{Refusal}
use Rattle.result_bytes.specs.declared.value.Value.{Value}
use Rattle.result_bytes.specs.Values.{IsValue, canon, decoding, kind_of_value}
use Rattle.result_bytes.proofs.ValueLaws.{decoded_takes, decoded_at}
use Rattle.fingerprint.specs.Prints.{print_of}
use Rattle.sessions.specs.declared.mark.Mark.{Mark}
use Rattle.sessions.specs.Marks.{is_input_mark, mark_number}
use Rattle.sessions.specs.declared.terms.Form.{Form}
use Rattle.sessions.specs.Terms.{ends_with_print}
use Rattle.sessions.specs.Sessions.{RecordValue, SessionValue, Entry, IsAbove, IsSession, FitsBehind, AreRecords, entry_at}
use Rattle.sessions.specs.Edges.{AreEdges}
use Rattle.sessions.specs.Spelling.{key_bytes, result_bytes, told_bytes, record_bytes}
use Rattle.sessions.proofs.EntryRules.{some_map, has_value, has_size, has_kind}
use Rattle.sessions.proofs.RecordLaws.{above_last, last_below, less_of_test, test_of_less}
use Rattle.session_file.specs.declared.fault.FileFault.TheVariants.{BadKey, KeyOrder, Result as BadResult, NoPastResult}
use Rattle.session_file.specs.Keys.{key_with, mark_with}
use Rattle.session_file.specs.Reading.{or_truncated, slice_at, short_text_at, there, tested, ItemValue, item_with, item_at, is_behind, check_place, edges_from, edge_list_at, value_with_print, result_at, OriginValue, past_value, past_with_print, taken_at, told_at, RestValue, rest_at, placed_item_at, record_at}
use Rattle.session_file.proofs.ReadLaws.{ok_is, bind_ok, bind_is, tested_ok, tested_is, there_ok, number_takes, number_again, byte_takes, bytes_takes, bytes_again, text_takes, text_again}
use Rattle.session_file.proofs.KeyLaws.{mark_again}
use Rattle.session_file.proofs.NamedLaws.{key_takes, mark_takes, key_again}
use Rattle.session_file.proofs.EdgeReadLaws.{edges_take, edges_again}

-- ---- a key and its mark

abbrev item_bytes : ItemValue → List ℕ
item_bytes item = key_bytes item.key ++ (mark_number item.mark ∷ [])

record Named (k : Option Key) (t : Option Mark) (item : ItemValue) : Type 0 where
  pub key : k ≡ Some item.key
  pub mark : t ≡ Some item.mark

item_named : (key : Option Key) (mark : Option Mark) (item : ItemValue) → item_with key mark ≡ Some item → Named key mark item
item_named (Some key) (Some mark) item e = record { key = cc; mark = cc }
item_named (Some key) None item e = absurd cc
item_named None (Some mark) item e = absurd cc
item_named None None item e = absurd cc

item_parts : (n t : ℕ) (c m : List ℕ) (key : Key) (mark : Mark) → number_of (kind_of key) ≡ n → class_text key ≡ c → member_text key ≡ m → mark_number mark ≡ t → (n ∷ []) ++ (name c ++ (name m ++ (t ∷ []))) ≡ key_bytes key ++ (mark_number mark ∷ [])
unfolding key_bytes
item_parts n t c m key mark en ec em et = rw (← en, ← ec, ← em, ← et) (ap (λ (xs : List ℕ). number_of (kind_of key) ∷ (length (class_text key) ∷ xs)) (sym (append_assoc (class_text key) (name (member_text key)) (mark_number mark ∷ []))))

pub item_takes : (i : ℕ) (bytes : List ℕ) (item : ItemValue) (rest : List ℕ) → IsBytes bytes → item_at i bytes ≡ Ok (item, rest) → Takes bytes (item_bytes item) rest × IsKey item.key
unfolding item_at
item_takes i bytes item rest fits e =
    let a = bind_ok (or_truncated (byte_at bytes)) _ (item, rest) e in
    let b = bind_ok (short_text_at a.0.1) _ (item, rest) a.2 in
    let c = bind_ok (short_text_at b.0.1) _ (item, rest) b.2 in
    let d = bind_ok (or_truncated (byte_at c.0.1)) _ (item, rest) c.2 in
    let t = there_ok (BadKey i) (item_with (key_with a.0.0 b.0.0 c.0.0) (mark_with d.0.0)) d.0.1 item rest d.2 in
    let ta = byte_takes bytes a.0.0 a.0.1 fits a.1 in
    let tb = text_takes a.0.1 b.0.0 b.0.1 ta.0.rest_fits b.1 in
    let tc = text_takes b.0.1 c.0.0 c.0.1 tb.0.rest_fits c.1 in
    let td = byte_takes c.0.1 d.0.0 d.0.1 tc.0.rest_fits d.1 in
    let n = item_named (key_with a.0.0 b.0.0 c.0.0) (mark_with d.0.0) item t.0 in
    let k = key_takes a.0.0 b.0.0 c.0.0 item.key tb.1 tc.1 n.key in
    let all = Takes-then bytes (a.0.0 ∷ []) a.0.1 (name b.0.0 ++ (name c.0.0 ++ (d.0.0 ∷ []))) d.0.1 ta.0 (Takes-then a.0.1 (name b.0.0) b.0.1 (name c.0.0 ++ (d.0.0 ∷ [])) d.0.1 tb.0 (Takes-then b.0.1 (name c.0.0) c.0.1 (d.0.0 ∷ []) d.0.1 tc.0 td.0)) in
    let spelled = item_parts a.0.0 d.0.0 b.0.0 c.0.0 item.key item.mark k.kind k.class k.member (mark_takes d.0.0 item.mark n.mark) in
    (subst (λ (xs : List ℕ). Takes bytes xs rest) spelled (subst (λ (xs : List ℕ). Takes bytes ((a.0.0 ∷ []) ++ (name b.0.0 ++ (name c.0.0 ++ (d.0.0 ∷ [])))) xs) t.1 all), k.names)

item_regrouped : (item : ItemValue) (rest : List ℕ) → item_bytes item ++ rest ≡ number_of (kind_of item.key) ∷ (name (class_text item.key) ++ (name (member_text item.key) ++ (mark_number item.mark ∷ rest)))
item_regrouped item rest =
    ap (λ (xs : List ℕ). xs ++ rest) (sym (item_parts (number_of (kind_of item.key)) (mark_number item.mark) (class_text item.key) (member_text item.key) item.key item.mark refl refl refl refl))
    ∙ ap (λ (xs : List ℕ). number_of (kind_of item.key) ∷ xs) (append_assoc (name (class_text item.key)) (name (member_text item.key) ++ (mark_number item.mark ∷ [])) rest
    ∙ ap (λ (xs : List ℕ). name (class_text item.key) ++ xs) (append_assoc (name (member_text item.key)) (mark_number item.mark ∷ []) rest))

pub item_again : (i : ℕ) (item : ItemValue) (rest : List ℕ) → IsKey item.key → item_at i (item_bytes item ++ rest) ≡ Ok (item, rest)
unfolding item_at
item_again i item rest h =
    let k = key_again item.key h in
    let m = mark_again item.mark in
    ap (item_at i) (item_regrouped item rest)
    ∙ bind_is (short_text_at (name (class_text item.key) ++ (name (member_text item.key) ++ (mark_number item.mark ∷ rest)))) _ (class_text item.key, name (member_text item.key) ++ (mark_number item.mark ∷ rest)) (text_again (class_text item.key) (name (member_text item.key) ++ (mark_number item.mark ∷ rest)))
    ∙ bind_is (short_text_at (name (member_text item.key) ++ (mark_number item.mark ∷ rest))) _ (member_text item.key, mark_number item.mark ∷ rest) (text_again (member_text item.key) (mark_number item.mark ∷ rest))
    ∙ rw (k, m) refl

-- ---- the place

get_last : (r : RecordValue) (front : List RecordValue) → None ≢ slice_get (r ∷ front) (length front)
get_last r [] e = cc
get_last r (s ∷ front) e = get_last s front e

no_last : (front : List RecordValue) → None ≡ slice_get front (length front - 1) → front ≡ []
no_last [] e = refl
no_last (r ∷ front) e =
    let n : length (r ∷ front) - 1 ≡ length front = omega arith in
    absurd (get_last r front (e ∙ ap (slice_get (r ∷ front)) n))

behind : (front : List RecordValue) (key : Key) (last : Option RecordValue) → AreRecords front → last ≡ slice_get front (length front - 1) → (is_behind last key ≡ true → IsAbove front key) × (IsAbove front key → is_behind last key ≡ true)
behind front key None are is = (λ t. subst (λ (xs : List RecordValue). IsAbove xs key) (sym (no_last front is)) tt, λ above. refl)
behind front key (Some last) are is = (
  λ t. above_last front (length front - 1) last key are refl is (less_of_test (key_cmp last.key key) t),
  λ above. test_of_less (key_cmp last.key key) (last_below front (length front - 1) last key refl is above),
)

pub record IsPlaced (front : List RecordValue) (item : ItemValue) : Type 0 where
  pub above : IsAbove front item.key
  pub marked : is_input_mark item.mark ≡ is_input (kind_of item.key)

pub placed_ok : (front : List RecordValue) (item : ItemValue) (u : Unit {0}) → AreRecords front → check_place front item ≡ Ok u → IsPlaced front item
unfolding check_place
placed_ok front item u are e =
    let a = bind_ok (tested (is_behind (slice_get front (length front - 1)) item.key) (KeyOrder (length front))) _ u e in
    record {
      above = (behind front item.key (slice_get front (length front - 1)) are refl).0 (tested_ok _ _ a.0 a.1);
      marked = (booleans_Decides _ _).0 (tested_ok _ _ u a.2);
    }

pub placed_is : (front : List RecordValue) (item : ItemValue) → AreRecords front → IsPlaced front item → check_place front item ≡ Ok tt
unfolding check_place
placed_is front item are h =
    bind_is (tested (is_behind (slice_get front (length front - 1)) item.key) (KeyOrder (length front))) _ tt (tested_is _ _ ((behind front item.key (slice_get front (length front - 1)) are refl).1 h.above))
    ∙ tested_is _ _ ((booleans_Decides (is_input_mark item.mark) (is_input (kind_of item.key))).1 h.marked)

pub placed_takes : (front : List RecordValue) (bytes : List ℕ) (item : ItemValue) (rest : List ℕ) → AreRecords front → IsBytes bytes → placed_item_at front bytes ≡ Ok (item, rest) → Takes bytes (item_bytes item) rest × IsKey item.key × IsPlaced front item
unfolding placed_item_at
placed_takes front bytes item rest are fits e =
    let a = bind_ok (item_at (length front) bytes) _ (item, rest) e in
    let p = bind_ok (check_place front a.0.0) _ (item, rest) a.2 in
    let t = item_takes (length front) bytes a.0.0 a.0.1 fits a.1 in
    subst (λ (x : ItemValue × List ℕ). Takes bytes (item_bytes x.0) x.1 × IsKey x.0.key × IsPlaced front x.0) (ok_is a.0 (item, rest) p.2)
    (t.0, t.1, placed_ok front a.0.0 p.0 are p.1)

pub placed_again : (front : List RecordValue) (item : ItemValue) (rest : List ℕ) → AreRecords front → IsKey item.key → IsPlaced front item → placed_item_at front (item_bytes item ++ rest) ≡ Ok (item, rest)
unfolding placed_item_at
placed_again front item rest are key placed =
    bind_is (item_at (length front) (item_bytes item ++ rest)) _ (item, rest) (item_again (length front) item rest key)
    ∙ bind_is (check_place front item) _ tt (placed_is front item are placed)

-- ---- the result

pub record ResultFits (wanted : Kind) (v : Value) : Type 0 where
  pub value : IsValue v
  pub kind : kind_of_value v ≡ wanted
  pub size : length (canon v) < 2 ^ 64

record Printed (p : List ℕ) (r : Result Value Refusal) (v : Value) : Type 0 where
  pub value : r ≡ Ok v
  pub print : p ≡ print_of v

printed_is : (print : List ℕ) (r : Result Value Refusal) (v : Value) → value_with_print print r ≡ Some v → Printed print r v
printed_is print (Ok w) v e =
    let k = cond_some (bytes_eq print (print_of w)) w v e in
    record { value = ap (λ (x : Value). Ok x) k.1; print = (bytes_eq-Decides print (print_of w)).0 k.0 ∙ ap print_of k.1 }
printed_is print (Err refusal) v e = absurd cc

result_parts : (v : Value) (p n t : List ℕ) → p ≡ print_of v → n ≡ eight (length (canon v)) → t ≡ canon v → p ++ (n ++ t) ≡ result_bytes v
unfolding result_bytes
result_parts v p n t ep en et = rw (ep, en, et) refl

pub result_takes : (i : ℕ) (kind : Kind) (bytes : List ℕ) (v : Value) (rest : List ℕ) → IsBytes bytes → result_at i kind bytes ≡ Ok (v, rest) → Takes bytes (result_bytes v) rest × ResultFits kind v
unfolding result_at
result_takes i kind bytes v rest fits e =
    let a = bind_ok (slice_at 32 bytes) _ (v, rest) e in
    let b = bind_ok (or_truncated (eight_at a.0.1)) _ (v, rest) a.2 in
    let c = bind_ok (slice_at b.0.0 b.0.1) _ (v, rest) b.2 in
    let t = there_ok (BadResult i) (value_with_print a.0.0 (decoding kind c.0.0)) c.0.1 v rest c.2 in
    let ta = bytes_takes 32 bytes a.0.0 a.0.1 fits a.1 in
    let tb = number_takes lawful_eight a.0.1 b.0.0 b.0.1 ta.0.rest_fits b.1 in
    let tc = bytes_takes b.0.0 b.0.1 c.0.0 c.0.1 tb.0.rest_fits c.1 in
    let p = printed_is a.0.0 (decoding kind c.0.0) v t.0 in
    let d = decoded_takes kind c.0.0 v tc.2 p.value in
    let size : length (canon v) ≡ b.0.0 = ap (λ (xs : List ℕ). length xs) (sym d.2) ∙ tc.1 in
    let all = Takes-then bytes a.0.0 a.0.1 (eight b.0.0 ++ c.0.0) c.0.1 ta.0 (Takes-then a.0.1 (eight b.0.0) b.0.1 c.0.0 c.0.1 tb.0 tc.0) in
    let spelled = result_parts v a.0.0 (eight b.0.0) c.0.0 p.print (ap eight (sym size)) d.2 in (
      subst (λ (xs : List ℕ). Takes bytes xs rest) spelled (subst (λ (xs : List ℕ). Takes bytes (a.0.0 ++ (eight b.0.0 ++ c.0.0)) xs) t.1 all),
      record { value = d.0; kind = d.1; size = omega (arith, size, tb.1) },
    )

result_regrouped : (v : Value) (rest : List ℕ) → result_bytes v ++ rest ≡ print_of v ++ (eight (length (canon v)) ++ (canon v ++ rest))
unfolding result_bytes
result_regrouped v rest = append_assoc (print_of v) (eight (length (canon v)) ++ canon v) rest ∙ ap (λ (xs : List ℕ). print_of v ++ xs) (append_assoc (eight (length (canon v))) (canon v) rest)

print_length : (v : Value) → length (print_of v) ≡ 32
unfolding print_of
print_length v = length-sha256 (canon v)

is_printed : (v : Value) (r : Result Value Refusal) → r ≡ Ok v → value_with_print (print_of v) r ≡ Some v
is_printed v r e =
    let same : bytes_eq (print_of v) (print_of v) ≡ true = (bytes_eq-Decides (print_of v) (print_of v)).1 refl in
    ap (value_with_print (print_of v)) e ∙ rw same refl

-- a value whose bytes and fingerprint stand there
pub spelled_is : (kind : Kind) (v : Value) (print text : List ℕ) → IsValue v → kind_of_value v ≡ kind → print ≡ print_of v → text ≡ canon v → value_with_print print (decoding kind text) ≡ Some v
spelled_is kind v print text value of_kind printed spelled =
    rw printed (is_printed v (decoding kind text) (decoded_at kind text v value of_kind spelled))

pub result_again : (i : ℕ) (kind : Kind) (v : Value) (rest : List ℕ) → ResultFits kind v → result_at i kind (result_bytes v ++ rest) ≡ Ok (v, rest)
unfolding result_at
result_again i kind v rest h =
    ap (result_at i kind) (result_regrouped v rest)
    ∙ bind_is (slice_at 32 (print_of v ++ (eight (length (canon v)) ++ (canon v ++ rest)))) _ (print_of v, eight (length (canon v)) ++ (canon v ++ rest)) (bytes_again 32 (print_of v) _ (print_length v))
    ∙ bind_is (or_truncated (eight_at (eight (length (canon v)) ++ (canon v ++ rest)))) _ (length (canon v), canon v ++ rest) (number_again lawful_eight (length (canon v)) (canon v ++ rest) h.size)
    ∙ bind_is (slice_at (length (canon v)) (canon v ++ rest)) _ (canon v, rest) (bytes_again (length (canon v)) (canon v) rest refl)
    ∙ ap (λ (o : Option Value). there (BadResult i) o rest) (is_printed v (decoding kind (canon v)) (decoded_at kind (canon v) v h.value h.kind refl))

-- ---- what a record ends with

-- if a record ends with its fingerprint, this is the result that the previous session has of its key
abbrev pub IsTold : OriginValue → Key → Mark → Value → Type 0
IsTold origin key mark v =
    ends_with_print origin.form mark ≡ true → past_value origin.past key ≡ Some v

record PastPrinted (p : List ℕ) (had : Option Value) (v : Value) : Type 0 where
  pub value : had ≡ Some v
  pub print : p ≡ print_of v

past_printed : (print : List ℕ) (had : Option Value) (v : Value) → past_with_print print had ≡ Some v → PastPrinted print had v
past_printed print (Some w) v e =
    let k = cond_some (bytes_eq print (print_of w)) w v e in
    record { value = ap (λ (x : Value). Some x) k.1; print = (bytes_eq-Decides print (print_of w)).0 k.0 ∙ ap print_of k.1 }
past_printed print None v e = absurd cc

taken_takes : (i : ℕ) (had : Option Value) (bytes : List ℕ) (v : Value) (rest : List ℕ) → IsBytes bytes → taken_at i had bytes ≡ Ok (v, rest) → Takes bytes (print_of v) rest × (had ≡ Some v)
unfolding taken_at
taken_takes i had bytes v rest fits e =
    let a = bind_ok (slice_at 32 bytes) _ (v, rest) e in
    let t = there_ok (NoPastResult i) (past_with_print a.0.0 had) a.0.1 v rest a.2 in
    let p = past_printed a.0.0 had v t.0 in
    let ta = bytes_takes 32 bytes a.0.0 a.0.1 fits a.1 in
    (subst (λ (xs : List ℕ). Takes bytes xs rest) p.print (subst (λ (xs : List ℕ). Takes bytes a.0.0 xs) t.1 ta.0), p.value)

taken_again : (i : ℕ) (v : Value) (rest : List ℕ) → taken_at i (Some v) (print_of v ++ rest) ≡ Ok (v, rest)
unfolding taken_at
taken_again i v rest =
    let same : bytes_eq (print_of v) (print_of v) ≡ true = (bytes_eq-Decides (print_of v) (print_of v)).1 refl in
    bind_is (slice_at 32 (print_of v ++ rest)) _ (print_of v, rest) (bytes_again 32 (print_of v) rest (print_length v))
    ∙ rw same refl

-- a result that the previous session has is one
past_fits : (past : Option SessionValue) (key : Key) (v : Value) → IfSome past IsSession → past_value past key ≡ Some v → ResultFits (kind_of key) v
past_fits None key v before is = absurd cc
past_fits (Some s) key v before is =
    let x = some_map (λ (r : Entry). r.value) (entry_at s key) v is in
    record {
      value = subst IsValue x.2 (has_value s before key x.0 x.1);
      kind = ap kind_of_value (sym x.2) ∙ has_kind s before key x.0 x.1;
      size = subst (λ (w : Value). length (canon w) < 2 ^ 64) x.2 (has_size s before key x.0 x.1);
    }

pub record Told (origin : OriginValue) (item : ItemValue) (bytes : List ℕ) (v : Value) (rest : List ℕ) : Type 0 where
  pub takes : Takes bytes (told_bytes origin.form item.mark v) rest
  pub fits : ResultFits (kind_of item.key) v
  pub told : IsTold origin item.key item.mark v

told_takes : (origin : OriginValue) (i : ℕ) (item : ItemValue) (bytes : List ℕ) (v : Value) (rest : List ℕ) → IfSome origin.past IsSession → IsBytes bytes → told_at origin i item bytes ≡ Ok (v, rest) → Told origin item bytes v rest
unfolding told_at told_bytes
told_takes origin i item bytes v rest before fits e = by_form (ends_with_print origin.form item.mark) refl e
  where
    by_form : (b : Bool) → ends_with_print origin.form item.mark ≡ b → cond b (taken_at i (past_value origin.past item.key)) (result_at i (kind_of item.key)) bytes ≡ Ok (v, rest) → Told origin item bytes v rest
    by_form true is e =
        let t = taken_takes i (past_value origin.past item.key) bytes v rest fits e in
        record { takes = rw is t.0; fits = past_fits origin.past item.key v before t.1; told = λ yes. t.1 }
    by_form false is e =
        let t = result_takes i (kind_of item.key) bytes v rest fits e in
        record { takes = rw is t.0; fits = t.1; told = λ yes. absurd cc }

told_again : (origin : OriginValue) (i : ℕ) (item : ItemValue) (v : Value) (rest : List ℕ) → ResultFits (kind_of item.key) v → IsTold origin item.key item.mark v → told_at origin i item (told_bytes origin.form item.mark v ++ rest) ≡ Ok (v, rest)
unfolding told_at told_bytes
told_again origin i item v rest fits told = by_form (ends_with_print origin.form item.mark) refl
  where
    by_form : (b : Bool) → ends_with_print origin.form item.mark ≡ b → cond b (taken_at i (past_value origin.past item.key)) (result_at i (kind_of item.key)) (cond b (print_of v) (result_bytes v) ++ rest) ≡ Ok (v, rest)
    by_form true is = rw (told is) (taken_again i v rest)
    by_form false is = result_again i (kind_of item.key) v rest fits

-- ---- a record

abbrev rest_bytes : Form → Mark → List ℕ → Value → List ℕ
rest_bytes form mark edges v = list eight edges ++ told_bytes form mark v

pub record RestFits (origin : OriginValue) (front : List RecordValue) (item : ItemValue) (r : RestValue) : Type 0 where
  pub edges : AreEdges front item.key r.edges
  pub few : length r.edges < 2 ^ 64
  pub result : ResultFits (kind_of item.key) r.value
  pub told : IsTold origin item.key item.mark r.value

pub rest_takes : (origin : OriginValue) (front : List RecordValue) (item : ItemValue) (bytes : List ℕ) (r : RestValue) (rest : List ℕ) → IfSome origin.past IsSession → IsBytes bytes → rest_at origin front item bytes ≡ Ok (r, rest) → Takes bytes (rest_bytes origin.form item.mark r.edges r.value) rest × RestFits origin front item r
unfolding rest_at edge_list_at
rest_takes origin front item bytes r rest before fits e =
    let a = bind_ok (edge_list_at front item.key bytes) _ (r, rest) e in
    let b = bind_ok (told_at origin (length front) item a.0.1) _ (r, rest) a.2 in
    let c = bind_ok (or_truncated (eight_at bytes)) (λ n. edges_from front item.key [] n.0 n.1) a.0 a.1 in
    let tc = number_takes lawful_eight bytes c.0.0 c.0.1 fits c.1 in
    let ta = edges_take front item.key c.0.0 [] c.0.1 a.0.0 a.0.1 (tt, tt) tc.0.rest_fits c.2 in
    let tb = told_takes origin (length front) item a.0.1 b.0.0 b.0.1 before ta.takes.rest_fits b.1 in
    let count : length a.0.0 ≡ c.0.0 = ap (λ (xs : List ℕ). length xs) (sym ta.whole_is) ∙ ta.count_is in
    let edges : Takes c.0.1 (flat_map eight a.0.0) a.0.1 = subst (λ (xs : List ℕ). Takes c.0.1 (flat_map eight xs) a.0.1) ta.whole_is ta.takes in
    let listed : Takes bytes (list eight a.0.0) a.0.1 = subst (λ (n : ℕ). Takes bytes (eight n ++ flat_map eight a.0.0) a.0.1) (sym count) (Takes-then bytes (eight c.0.0) c.0.1 (flat_map eight a.0.0) a.0.1 tc.0 edges) in
    subst (λ (x : RestValue × List ℕ). Takes bytes (rest_bytes origin.form item.mark x.0.edges x.0.value) x.1 × RestFits origin front item x.0) (ok_is (record { edges = a.0.0; value = b.0.0 }, b.0.1) (r, rest) b.2) (
      Takes-then bytes (list eight a.0.0) a.0.1 (told_bytes origin.form item.mark b.0.0) b.0.1 listed tb.takes,
      record { edges = ta.are; few = omega (arith, count, tc.1); result = tb.fits; told = tb.told },
    )

pub rest_again : (origin : OriginValue) (front : List RecordValue) (item : ItemValue) (r : RestValue) (rest : List ℕ) → length front < 2 ^ 64 → RestFits origin front item r → rest_at origin front item (rest_bytes origin.form item.mark r.edges r.value ++ rest) ≡ Ok (r, rest)
unfolding rest_at edge_list_at
rest_again origin front item r rest few h =
    let told = told_bytes origin.form item.mark r.value in
    let regrouped : rest_bytes origin.form item.mark r.edges r.value ++ rest ≡ eight (length r.edges) ++ (flat_map eight r.edges ++ (told ++ rest)) = append_assoc (list eight r.edges) told rest ∙ append_assoc (eight (length r.edges)) (flat_map eight r.edges) (told ++ rest) in
    let edges : edge_list_at front item.key (eight (length r.edges) ++ (flat_map eight r.edges ++ (told ++ rest))) ≡ Ok (r.edges, told ++ rest) = bind_is (or_truncated (eight_at (eight (length r.edges) ++ (flat_map eight r.edges ++ (told ++ rest))))) (λ n. edges_from front item.key [] n.0 n.1) (length r.edges, flat_map eight r.edges ++ (told ++ rest)) (number_again lawful_eight (length r.edges) _ h.few) ∙ edges_again front item.key r.edges [] (told ++ rest) few h.edges in
    ap (rest_at origin front item) regrouped
    ∙ bind_is (edge_list_at front item.key (eight (length r.edges) ++ (flat_map eight r.edges ++ (told ++ rest)))) _ (r.edges, told ++ rest) edges
    ∙ bind_is (told_at origin (length front) item (told ++ rest)) _ (r.value, rest) (told_again origin (length front) item r.value rest h.result h.told)

record_parts : (form : Form) (key : Key) (mark : Mark) (edges : List ℕ) (v : Value) → item_bytes (record { key = key; mark = mark }) ++ rest_bytes form mark edges v ≡ record_bytes form (record { key = key; mark = mark; edges = edges; value = v })
unfolding record_bytes
record_parts form key mark edges v = append_assoc (key_bytes key) (mark_number mark ∷ []) (rest_bytes form mark edges v)

-- a record that was read over the previous session
abbrev pub IsReadOver : OriginValue → RecordValue → Type 0
IsReadOver origin r = IsTold origin r.key r.mark r.value

pub record RecordRead (origin : OriginValue) (front : List RecordValue) (bytes : List ℕ) (r : RecordValue) (rest : List ℕ) : Type 0 where
  pub takes : Takes bytes (record_bytes origin.form r) rest
  pub fits : FitsBehind front r
  pub told : IsReadOver origin r

pub record_takes : (origin : OriginValue) (front : List RecordValue) (bytes : List ℕ) (r : RecordValue) (rest : List ℕ) → IfSome origin.past IsSession → AreRecords front → IsBytes bytes → record_at origin front bytes ≡ Ok (r, rest) → RecordRead origin front bytes r rest
unfolding record_at
record_takes origin front bytes r rest before are fits e =
    let a = bind_ok (placed_item_at front bytes) _ (r, rest) e in
    let b = bind_ok (rest_at origin front a.0.0 a.0.1) _ (r, rest) a.2 in
    let ta = placed_takes front bytes a.0.0 a.0.1 are fits a.1 in
    let tb = rest_takes origin front a.0.0 a.0.1 b.0.0 b.0.1 before ta.0.rest_fits b.1 in
    let all = Takes-then bytes (item_bytes a.0.0) a.0.1 (rest_bytes origin.form a.0.0.mark b.0.0.edges b.0.0.value) b.0.1 ta.0 tb.0 in
    subst (λ (x : RecordValue × List ℕ). RecordRead origin front bytes x.0 x.1) (ok_is (record { key = a.0.0.key; mark = a.0.0.mark; edges = b.0.0.edges; value = b.0.0.value }, b.0.1) (r, rest) b.2) (record {
      takes = subst (λ (xs : List ℕ). Takes bytes xs b.0.1) (record_parts origin.form a.0.0.key a.0.0.mark b.0.0.edges b.0.0.value) all;
      fits = record {
        above = ta.2.above;
        marked = ta.2.marked;
        edges = tb.1.edges.0;
        once = tb.1.edges.1;
        kind = tb.1.result.kind;
        kept = record { names = ta.1; value = tb.1.result.value; size = tb.1.result.size; few = tb.1.few };
      };
      told = tb.1.told;
    })

pub record_again : (origin : OriginValue) (front : List RecordValue) (r : RecordValue) (rest : List ℕ) → length front < 2 ^ 64 → AreRecords front → FitsBehind front r → IsReadOver origin r → record_at origin front (record_bytes origin.form r ++ rest) ≡ Ok (r, rest)
unfolding record_at
record_again origin front r rest few are h told =
    let item : ItemValue = record { key = r.key; mark = r.mark } in
    let tail : RestValue = record { edges = r.edges; value = r.value } in
    let tail_bytes = rest_bytes origin.form r.mark r.edges r.value in
    let regrouped : record_bytes origin.form r ++ rest ≡ item_bytes item ++ (tail_bytes ++ rest) = ap (λ (xs : List ℕ). xs ++ rest) (sym (record_parts origin.form r.key r.mark r.edges r.value)) ∙ append_assoc (item_bytes item) tail_bytes rest in
    ap (record_at origin front) regrouped
    ∙ bind_is (placed_item_at front (item_bytes item ++ (tail_bytes ++ rest))) _ (item, tail_bytes ++ rest) (placed_again front item (tail_bytes ++ rest) are h.kept.names (record { above = h.above; marked = h.marked }))
    ∙ bind_is (rest_at origin front item (tail_bytes ++ rest)) _ (tail, rest) (rest_again origin front item tail rest few (record { edges = (h.edges, h.once); few = h.kept.few; result = record { value = h.kept.value; kind = h.kind; size = h.kept.size }; told = told }))
