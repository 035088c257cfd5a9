-- What a trace means: by the words of a line, by a line, and as a whole.
use Rattle.std.specs.Prelude.{ℕ, ◌+◌, Bool, true, ◌==◌, List, [], ◌∷◌, map, length, slice_index, nat_le, Option, Some, None, ok_or, Result, Ok, Err}
use Rattle.std.specs.Prelude.{if◌then◌else◌}
use Rattle.std.specs.Str.Lines.{strip_carriage_return}
use Rattle.sel_box.specs.Packet.{PacketFields}
use Rattle.trace_text.specs.declared.fault.EventFault.{EventFault}
use Rattle.trace_text.specs.declared.fault.EventFault.TheVariants.{LineTooLong, BadWord, NotAPacket}
use Rattle.trace_text.specs.declared.keyword.Keyword.{Keyword}
use Rattle.trace_text.specs.declared.written.WrittenField.{WrittenField}
use Rattle.trace_text.specs.Event.{TraceEvent, Pkt, Take, Search, Fill, Insert, Delete, Move}
use Rattle.trace_text.specs.Fields.{keyword_of, direction_of, lane_of, place_of, name_of, address_word, protocol_of, field_of}
use Rattle.sel_text.specs.Lines.{lines_of, before_feed}
use Rattle.trace_text.specs.Words.{words_of, table_of}
use Rattle.trace_text.specs.Written.{written_packet}

-- The words of a line that are left, and the number of the first of them, counted from 1.
pub record WordsLeft : Type 0 where
  pub number : ℕ
  pub words : List (List ℕ)

-- What is made of a value, or the fault.
abbrev pub made : {A B : Type 0} → (A → B) → Result A EventFault → Result B EventFault
made make (Ok value) = Ok (make value)
made make (Err fault) = Err fault

-- Goes on with a value; a fault ends it.
abbrev pub with_value : {A B : Type 0} → Result A EventFault → (A → Result B EventFault)
    → Result B EventFault
with_value (Ok value) next = next value
with_value (Err fault) next = Err fault

-- What a word means; one that its place doesn't allow is the bad word of that number.
abbrev pub allowed : {A : Type 0} → ℕ → Option A → Result A EventFault
allowed number meaning = ok_or meaning (BadWord number)

-- Goes on with what the first word means and with the words behind it; a missing word is the bad
-- word of the number that it would have.
abbrev pub with_first : {A B : Type 0} → (List ℕ → Option A) → ℕ → List (List ℕ)
    → (A → WordsLeft → Result B EventFault) → Result B EventFault
with_first meaning number [] next = Err (BadWord number)
with_first meaning number (word ∷ words) next =
    with_value (allowed number (meaning word)) (λ value.
    next value record { number = number + 1; words = words })

abbrev pub with_word : {A B : Type 0} → (List ℕ → Option A) → WordsLeft
    → (A → WordsLeft → Result B EventFault) → Result B EventFault
with_word meaning left next = with_first meaning left.number left.words next

-- Gives the answer where no word is left; a further word is the bad word of its number.
abbrev pub where_none : {A : Type 0} → ℕ → List (List ℕ) → Result A EventFault → Result A EventFault
where_none number [] answer = answer
where_none number (word ∷ words) answer = Err (BadWord number)

abbrev pub at_end : {A : Type 0} → WordsLeft → Result A EventFault → Result A EventFault
at_end left answer = where_none left.number left.words answer

-- The source field and the destination field, the last two words.
abbrev pub fields_in : WordsLeft → Result (WrittenField × WrittenField) EventFault
fields_in left =
    with_word field_of left (λ source left.
    with_word field_of left (λ destination left.
    at_end left (Ok (source, destination))))

-- The packet of the last five words: its addresses, source first, its protocol and its fields.
abbrev pub packet_in : WordsLeft → Result PacketFields EventFault
packet_in left =
    with_word address_word left (λ source left.
    with_word address_word left (λ destination left.
    with_word protocol_of left (λ protocol left.
    with_value (fields_in left) (λ fields.
    ok_or (written_packet record {
      source = source;
      destination = destination;
      protocol = protocol;
      source_field = fields.0;
      destination_field = fields.1;
    }) NotAPacket))))

-- `pkt DIRECTION PACKET`: a packet, judged at once.
abbrev pub pkt_in : WordsLeft → Result TraceEvent EventFault
pkt_in left =
    with_word direction_of left (λ direction left.
    made (Pkt direction) (packet_in left))

-- `take LANE DIRECTION PACKET`: the first step of a lane.
abbrev pub take_in : WordsLeft → Result TraceEvent EventFault
take_in left =
    with_word lane_of left (λ lane left.
    with_word direction_of left (λ direction left.
    made (Take lane direction) (packet_in left)))

-- The lane of `search LANE` and `fill LANE`, the second and the third step.
abbrev pub lane_in : WordsLeft → Result ℕ EventFault
lane_in left =
    with_word lane_of left (λ lane left.
    at_end left (Ok lane))

-- The rest of a line, where it has a word; a missing one is the bad word of the number that it
-- would have.
abbrev pub where_some : ℕ → List (List ℕ) → List ℕ → Result (List ℕ) EventFault
where_some number [] rest = Err (BadWord number)
where_some number (word ∷ words) rest = Ok rest

-- `insert PLACE TABLE`: the table is the rest of the line as it stands, and only its absence
-- counts.
abbrev pub insert_in : List ℕ → WordsLeft → Result TraceEvent EventFault
insert_in table left =
    with_word place_of left (λ place left.
    made (Insert place) (where_some left.number left.words table))

-- `delete NAME`
abbrev pub delete_in : WordsLeft → Result TraceEvent EventFault
delete_in left =
    with_word name_of left (λ name left.
    at_end left (Ok (Delete name)))

-- `move NAME PLACE`
abbrev pub move_in : WordsLeft → Result TraceEvent EventFault
move_in left =
    with_word name_of left (λ name left.
    with_word place_of left (λ place left.
    at_end left (Ok (Move name place))))

-- The event of the words behind the first, by what that one says.
abbrev pub keyed_in : List ℕ → Keyword → WordsLeft → Result TraceEvent EventFault
keyed_in table Keyword.Pkt left = pkt_in left
keyed_in table Keyword.Take left = take_in left
keyed_in table Keyword.Search left = made Search (lane_in left)
keyed_in table Keyword.Fill left = made Fill (lane_in left)
keyed_in table Keyword.Insert left = insert_in table left
keyed_in table Keyword.Delete left = delete_in left
keyed_in table Keyword.Move left = move_in left

-- The event of all words of a line.
abbrev pub event_in : List ℕ → WordsLeft → Result TraceEvent EventFault
event_in table left = with_word keyword_of left (keyed_in table)

-- A line without words, or whose first word begins with `#`, asks for nothing.
abbrev pub asks_nothing : List (List ℕ) → Bool
asks_nothing [] = true
asks_nothing (word ∷ words) = slice_index word 0 == 35

-- What the text of a line means: its event, nothing, or its first fault.
abbrev pub text_meaning : List ℕ → Result (Option TraceEvent) EventFault
text_meaning text =
    if asks_nothing (words_of text) then Ok None
    else made Some (event_in (table_of text) record { number = 1; words = words_of text })

-- What the bytes of a line before its LF mean: they are at most 4,096, and one CR at their end is
-- set aside.
abbrev pub bytes_meaning : List ℕ → Result (Option TraceEvent) EventFault
bytes_meaning bytes =
    if nat_le (length bytes) 4096 then text_meaning (strip_carriage_return bytes)
    else Err LineTooLong

-- What a line means with its end.
unfoldable pub trace_line_meaning : List ℕ → Result (Option TraceEvent) EventFault
trace_line_meaning line = bytes_meaning (before_feed line)

-- What a trace means: for each of its lines its event, nothing, or its fault.
abbrev pub events_of : List ℕ → List (Result (Option TraceEvent) EventFault)
events_of bytes = map trace_line_meaning (lines_of bytes)
