-- A bad word rests on the words up to it: it has the number of one of them, or of the missing one
-- behind the last, and nothing that stands further back changes it.
use Rattle.std.proofs.Common.{◌≡◌, ℕ, suc, ◌+◌, ◌≤◌, List, [], ◌∷◌, Bool, true, false, length, take, Option, Some, None, Result, Ok, Err, refl, arith}
use Rattle.std.specs.Prelude.{ok_or, if◌then◌else◌}
use Rattle.trace_text.specs.declared.fault.EventFault.{EventFault}
use Rattle.trace_text.specs.declared.fault.EventFault.TheVariants.{BadWord, NotAPacket}
use Rattle.trace_text.specs.declared.keyword.Keyword.{Keyword}
use Rattle.trace_text.specs.Event.{TraceEvent, Pkt, Take, Search, Fill, Insert, Delete, Move}
use Rattle.trace_text.specs.Fields.{keyword_of, direction_of, lane_of, place_of, name_of, address_word, protocol_of, field_of}
use Rattle.trace_text.specs.Trace as trace
use Rattle.trace_text.specs.Words.{words_of, table_of}

abbrev counted : ℕ → List (List ℕ) → trace.WordsLeft
counted number words = record { number = number; words = words }

-- The bad word stands so many words behind the first, and comes wherever the words up to it are
-- these.
record IsBlamed {A : Type 0} (meaning : trace.WordsLeft → Result A EventFault) (number : ℕ) (words : List (List ℕ)) (bad : ℕ) : Type 0 where
  ahead : ℕ
  place : bad ≡ number + ahead
  within : ahead ≤ length words
  again : (others : List (List ℕ)) → take (suc ahead) others ≡ take (suc ahead) words → meaning (counted number others) ≡ Err (BadWord bad)

abbrev Blames : {A : Type 0} → (trace.WordsLeft → Result A EventFault) → Type 0
Blames {A} meaning = (number : ℕ) (words : List (List ℕ)) (bad : ℕ) → meaning (counted number words) ≡ Err (BadWord bad) → IsBlamed meaning number words bad

no_fault : {A : Type 0} (value : A) (bad : ℕ) → Ok value ≡ Err (BadWord bad) → ⊥
no_fault value bad is = cc

bad_is : {A : Type 0} (number bad : ℕ) (fault : Result A EventFault) → fault ≡ Err (BadWord number) → fault ≡ Err (BadWord bad) → number ≡ bad
bad_is number bad fault is other = cc

-- A first word that isn't allowed, or is missing, is bad whatever follows.
refused_again : {A B : Type 0} (meaning : List ℕ → Option A) (next : A → trace.WordsLeft
    → Result B EventFault) (number : ℕ) (word : List ℕ) (words others : List (List ℕ)) → meaning word ≡ None → take 1 others ≡ take 1 (word ∷ words)
    → trace.with_word meaning (counted number others) next ≡ Err (BadWord number)
refused_again meaning next number word words [] none prefix = refl
refused_again meaning next number word words (other ∷ others) none prefix =
    let same : other ≡ word = cc in rw (same, none) refl

missing_again : {A B : Type 0} (meaning : List ℕ → Option A) (next : A → trace.WordsLeft → Result B EventFault) (number : ℕ) (others : List (List ℕ))
    → take 1 others ≡ [] → trace.with_word meaning (counted number others) next ≡ Err (BadWord number)
missing_again meaning next number [] prefix = refl
missing_again meaning next number (other ∷ others) prefix = cc

-- A first word that is allowed leaves it to the others.
allowed_again : {A B : Type 0} (meaning : List ℕ → Option A) (next : A → trace.WordsLeft
    → Result B EventFault) (number ahead bad : ℕ) (word : List ℕ) (words others : List (List ℕ)) (value : A) → meaning word ≡ Some value
    → ((rest : List (List ℕ)) → take (suc ahead) rest ≡ take (suc ahead) words → next value (counted (number + 1) rest) ≡ Err (BadWord bad))
    → take (suc (suc ahead)) others ≡ take (suc (suc ahead)) (word ∷ words) → trace.with_word meaning (counted number others) next ≡ Err (BadWord bad)
allowed_again meaning next number ahead bad word words [] value some again prefix = cc
allowed_again meaning next number ahead bad word words (other ∷ others) value some again prefix =
    let same : other ≡ word = cc in
    let tail : take (suc ahead) others ≡ take (suc ahead) words = cc in
    rw (same, some) (again others tail)

word_by : {A B : Type 0} (meaning : List ℕ → Option A) (next : A → trace.WordsLeft → Result B EventFault) → ((value : A) → Blames (next value))
    → (number : ℕ) (word : List ℕ) (words : List (List ℕ)) (bad : ℕ) (found : Option A) → meaning word ≡ found
    → trace.with_word meaning (counted number (word ∷ words)) next ≡ Err (BadWord bad)
    → IsBlamed (λ left. trace.with_word meaning left next) number (word ∷ words) bad
word_by meaning next more number word words bad None none is =
    let same : number ≡ bad = bad_is number bad _ refl (rw none at is) in
    record {
      ahead = 0;
      place = omega arith;
      within = omega arith;
      again = λ others prefix. rw (← same) (refused_again meaning next number word words others none prefix);
    }
word_by meaning next more number word words bad (Some value) some is =
    let rest = more value (number + 1) words bad (rw some at is) in
    record {
      ahead = suc rest.ahead;
      place = omega (arith, rest.place);
      within = omega (arith, rest.within);
      again = λ others prefix. allowed_again meaning next number rest.ahead bad word words others value some rest.again prefix;
    }

with_word-blames : {A B : Type 0} (meaning : List ℕ → Option A) (next : A → trace.WordsLeft → Result B EventFault) → ((value : A) → Blames (next value))
    → Blames (λ left. trace.with_word meaning left next)
with_word-blames meaning next more number [] = λ bad is.
    let same : number ≡ bad = bad_is number bad _ refl is in
    record {
      ahead = 0;
      place = omega arith;
      within = omega arith;
      again = λ others prefix. rw (← same) (missing_again meaning next number others prefix);
    }
with_word-blames meaning next more number (word ∷ words) = λ bad is.
    word_by meaning next more number word words bad (meaning word) refl is

-- A word that is left where none may be, or that is missing, is bad whatever it is.
further_again : {A : Type 0} (number : ℕ) (word : List ℕ) (words others : List (List ℕ)) (answer : Result A EventFault) → take 1 others ≡ take 1 (word ∷ words)
    → trace.at_end (counted number others) answer ≡ Err (BadWord number)
further_again number word words [] answer prefix = cc
further_again number word words (other ∷ others) answer prefix = refl

at_end-blames : {A : Type 0} (value : A) → Blames (λ left. trace.at_end left (Ok value))
at_end-blames value number [] = λ bad is. absurd (no_fault value bad is)
at_end-blames value number (word ∷ words) = λ bad is.
    let same : number ≡ bad = bad_is number bad _ refl is in
    record {
      ahead = 0;
      place = omega arith;
      within = omega arith;
      again = λ others prefix. rw (← same) (further_again number word words others (Ok value) prefix);
    }

none_again : (number : ℕ) (others : List (List ℕ)) (rest : List ℕ) → take 1 others ≡ [] → trace.where_some number others rest ≡ Err (BadWord number)
none_again number [] rest prefix = refl
none_again number (other ∷ others) rest prefix = cc

where_some-blames : (rest : List ℕ) → Blames (λ left. trace.where_some left.number left.words rest)
where_some-blames rest number [] = λ bad is.
    let same : number ≡ bad = bad_is number bad _ refl is in
    record {
      ahead = 0;
      place = omega arith;
      within = omega arith;
      again = λ others prefix. rw (← same) (none_again number others rest prefix);
    }
where_some-blames rest number (word ∷ words) = λ bad is. absurd (no_fault rest bad is)

-- What is made of an answer has its faults.
made_fault : {A B : Type 0} (make : A → B) (answer : Result A EventFault) (fault : EventFault) → trace.made make answer ≡ Err fault → answer ≡ Err fault
made_fault make (Ok value) fault is = cc
made_fault make (Err other) fault is = let same : other ≡ fault = cc in cc

made-blames : {A B : Type 0} (make : A → B) (meaning : trace.WordsLeft → Result A EventFault) → Blames meaning → Blames (λ left. trace.made make (meaning left))
made-blames make meaning blames number words bad is =
    let inner = blames number words bad (made_fault make (meaning (counted number words)) (BadWord bad) is) in
    record {
      ahead = inner.ahead;
      place = inner.place;
      within = inner.within;
      again = λ others prefix. rw (inner.again others prefix) refl;
    }

-- A step that answers no bad word.
value_fault : {A B : Type 0} (answer : Result A EventFault) (next : A → Result B EventFault) (bad : ℕ) → ((value : A) → next value ≡ Err (BadWord bad) → ⊥)
    → trace.with_value answer next ≡ Err (BadWord bad) → answer ≡ Err (BadWord bad)
value_fault (Ok value) next bad none is = absurd (none value is)
value_fault (Err fault) next bad none is = let same : fault ≡ BadWord bad = cc in cc

with_value-blames : {A B : Type 0} (meaning : trace.WordsLeft → Result A EventFault) (next : A → Result B EventFault)
    → ((value : A) (bad : ℕ) → next value ≡ Err (BadWord bad) → ⊥) → Blames meaning → Blames (λ left. trace.with_value (meaning left) next)
with_value-blames meaning next none blames number words bad is =
    let inner = blames number words bad (value_fault (meaning (counted number words)) next bad (λ value. none value bad) is) in
    record {
      ahead = inner.ahead;
      place = inner.place;
      within = inner.within;
      again = λ others prefix. rw (inner.again others prefix) refl;
    }

no_packet : {A : Type 0} (packet : Option A) (bad : ℕ) → ok_or packet NotAPacket ≡ Err (BadWord bad) → ⊥
no_packet None bad is = cc
no_packet (Some packet) bad is = cc

fields_in-blames : Blames trace.fields_in
fields_in-blames =
    with_word-blames field_of _ (λ source.
    with_word-blames field_of _ (λ destination.
    at_end-blames (source, destination)))

packet_in-blames : Blames trace.packet_in
packet_in-blames =
    with_word-blames address_word _ (λ source.
    with_word-blames address_word _ (λ destination.
    with_word-blames protocol_of _ (λ protocol.
    with_value-blames trace.fields_in _ (λ fields. no_packet _) fields_in-blames)))

lane_in-blames : Blames trace.lane_in
lane_in-blames = with_word-blames lane_of _ at_end-blames

keyed_in-blames : (table : List ℕ) (keyword : Keyword) → Blames (trace.keyed_in table keyword)
keyed_in-blames table Keyword.Pkt =
    with_word-blames direction_of _ (λ direction. made-blames (Pkt direction) trace.packet_in packet_in-blames)
keyed_in-blames table Keyword.Take =
    with_word-blames lane_of _ (λ lane.
    with_word-blames direction_of _ (λ direction. made-blames (Take lane direction) trace.packet_in packet_in-blames))
keyed_in-blames table Keyword.Search = made-blames Search trace.lane_in lane_in-blames
keyed_in-blames table Keyword.Fill = made-blames Fill trace.lane_in lane_in-blames
keyed_in-blames table Keyword.Insert =
    with_word-blames place_of _ (λ place. made-blames (Insert place) _ (where_some-blames table))
keyed_in-blames table Keyword.Delete = with_word-blames name_of _ (λ name. at_end-blames (Delete name))
keyed_in-blames table Keyword.Move =
    with_word-blames name_of _ (λ name.
    with_word-blames place_of _ (λ place. at_end-blames (Move name place)))

event_in-blames : (table : List ℕ) → Blames (trace.event_in table)
event_in-blames table = with_word-blames keyword_of _ (keyed_in-blames table)

-- A fault doesn't rest on the text of a table.
abbrev AnyTable : (List ℕ → Result TraceEvent EventFault) → Type 0
AnyTable answer = (table other : List ℕ) (fault : EventFault) → answer table ≡ Err fault → answer other ≡ Err fault

any_rest : (place number : ℕ) (words : List (List ℕ)) → AnyTable (λ table. trace.made (Insert place) (trace.where_some number words table))
any_rest place number [] = λ table other fault is. is
any_rest place number (word ∷ words) = λ table other fault is. cc

any_place : (number : ℕ) (words : List (List ℕ)) (found : Option ℕ)
    → AnyTable (λ table. trace.with_value (trace.allowed number found) (λ place. trace.made (Insert place) (trace.where_some (number + 1) words table)))
any_place number words None = λ table other fault is. is
any_place number words (Some place) = any_rest place (number + 1) words

any_insert : (number : ℕ) (words : List (List ℕ)) → AnyTable (λ table. trace.insert_in table (counted number words))
any_insert number [] = λ table other fault is. is
any_insert number (word ∷ words) = any_place number words (place_of word)

any_keyed : (keyword : Keyword) (number : ℕ) (words : List (List ℕ)) → AnyTable (λ table. trace.keyed_in table keyword (counted number words))
any_keyed Keyword.Pkt number words = λ table other fault is. is
any_keyed Keyword.Take number words = λ table other fault is. is
any_keyed Keyword.Search number words = λ table other fault is. is
any_keyed Keyword.Fill number words = λ table other fault is. is
any_keyed Keyword.Insert number words = any_insert number words
any_keyed Keyword.Delete number words = λ table other fault is. is
any_keyed Keyword.Move number words = λ table other fault is. is

any_found : (number : ℕ) (words : List (List ℕ)) (found : Option Keyword)
    → AnyTable (λ table. trace.with_value (trace.allowed number found) (λ keyword. trace.keyed_in table keyword (counted (number + 1) words)))
any_found number words None = λ table other fault is. is
any_found number words (Some keyword) = any_keyed keyword (number + 1) words

any_event : (number : ℕ) (words : List (List ℕ)) → AnyTable (λ table. trace.event_in table (counted number words))
any_event number [] = λ table other fault is. is
any_event number (word ∷ words) = any_found number words (keyword_of word)

-- A line whose event has a fault asks for something.
abbrev meaning_by : Bool → List ℕ → List (List ℕ) → Result (Option TraceEvent) EventFault
meaning_by nothing table words = if nothing then Ok None else trace.made Some (trace.event_in table (counted 1 words))

asked_by : (nothing : Bool) (table : List ℕ) (words : List (List ℕ)) (fault : EventFault) → meaning_by nothing table words ≡ Err fault
    → (nothing ≡ false) × (trace.event_in table (counted 1 words) ≡ Err fault)
asked_by true table words fault is = cc
asked_by false table words fault is = (refl, made_fault Some (trace.event_in table (counted 1 words)) fault is)

asks_again : (ahead : ℕ) (words others : List (List ℕ)) → trace.asks_nothing words ≡ false → take (suc ahead) others ≡ take (suc ahead) words
    → trace.asks_nothing others ≡ false
asks_again ahead [] others asks prefix = cc
asks_again ahead (word ∷ words) [] asks prefix = cc
asks_again ahead (word ∷ words) (other ∷ others) asks prefix = let same : other ≡ word = cc in rw same asks

text_blames : (text : List ℕ) (bad : ℕ) → trace.text_meaning text ≡ Err (BadWord bad)
    → (trace.asks_nothing (words_of text) ≡ false) × IsBlamed (trace.event_in (table_of text)) 1 (words_of text) bad
text_blames text bad is =
    let asked = asked_by (trace.asks_nothing (words_of text)) (table_of text) (words_of text) (BadWord bad) is in
    (asked.0, event_in-blames (table_of text) 1 (words_of text) bad asked.1)

-- The number of a bad word.
pub bad_word_number : (text : List ℕ) (bad : ℕ) → trace.text_meaning text ≡ Err (BadWord bad) → (1 ≤ bad) × (bad ≤ length (words_of text) + 1)
bad_word_number text bad is =
    let blamed = (text_blames text bad is).1 in
    (omega (arith, blamed.place), omega (arith, blamed.place, blamed.within))

-- A bad word again, behind the same words.
pub bad_word_again : (text other : List ℕ) (bad : ℕ) → trace.text_meaning text ≡ Err (BadWord bad) → take bad (words_of other) ≡ take bad (words_of text)
    → trace.text_meaning other ≡ Err (BadWord bad)
bad_word_again text other bad is prefix =
    let blamed = text_blames text bad is in
    let count : bad ≡ suc blamed.1.ahead = omega (arith, blamed.1.place) in
    let same = rw count at prefix in
    let event = any_event 1 (words_of other) (table_of text) (table_of other) (BadWord bad) (blamed.1.again (words_of other) same) in
    rw (asks_again blamed.1.ahead (words_of text) (words_of other) blamed.0 same, event) refl
