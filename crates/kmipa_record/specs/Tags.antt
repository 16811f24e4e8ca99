-- Tags: a name for each that the three files have of their own. Each ends in `_tag`: the words before it name elsewhere what it holds.
use Rattle.std.specs.Prelude.{ℕ}

-- the header of a transcript
abbrev pub transcript_header_tag : ℕ
transcript_header_tag = 0x54_0001

-- the version of the format, in a header
abbrev pub version_tag : ℕ
version_tag = 0x54_0002

-- the name of a recording, in the header of a sealed transcript
abbrev pub recording_tag : ℕ
recording_tag = 0x54_0004

-- which segment of the recording it is
abbrev pub segment_tag : ℕ
segment_tag = 0x54_0005

-- the last seal of the segment before
abbrev pub previous_tag : ℕ
previous_tag = 0x54_0006

-- the mark of a call that begins
abbrev pub begin_mark_tag : ℕ
begin_mark_tag = 0x54_0010

-- the number of a call
abbrev pub call_tag : ℕ
call_tag = 0x54_0011

-- who made a call
abbrev pub client_tag : ℕ
client_tag = 0x54_0012

-- the request or response message of a call, in a mark
abbrev pub message_tag : ℕ
message_tag = 0x54_0013

-- the moment of a sealed record
abbrev pub moment_tag : ℕ
moment_tag = 0x54_0014

-- the seal of a record
abbrev pub seal_tag : ℕ
seal_tag = 0x54_0015

-- what kind of note it is
abbrev pub note_kind_tag : ℕ
note_kind_tag = 0x54_0016

-- the text of a note
abbrev pub note_text_tag : ℕ
note_text_tag = 0x54_0017

-- how many records are ahead of a close
abbrev pub records_tag : ℕ
records_tag = 0x54_0018

-- the mark of a call that ends
abbrev pub end_mark_tag : ℕ
end_mark_tag = 0x54_0020

-- a note of the recorder
abbrev pub note_tag : ℕ
note_tag = 0x54_0021

-- the close of a sealed transcript
abbrev pub close_tag : ℕ
close_tag = 0x54_0022

-- the header of a declaration
abbrev pub declaration_header_tag : ℕ
declaration_header_tag = 0x54_0030

-- whether names are unique
abbrev pub unique_names_tag : ℕ
unique_names_tag = 0x54_0031

-- a row: a result reason, and a cause that it stands for
abbrev pub row_tag : ℕ
row_tag = 0x54_0032

-- the cause in a row
abbrev pub cause_tag : ℕ
cause_tag = 0x54_0033

-- an entry: an object that the server held
abbrev pub entry_tag : ℕ
entry_tag = 0x54_0034

-- what becomes of what isn't judged, in the header of a declaration
abbrev pub unjudged_tag : ℕ
unjudged_tag = 0x54_0035

-- how far moments may be from stamps, in seconds
abbrev pub tolerance_tag : ℕ
tolerance_tag = 0x54_0036

-- whether clients see the objects of others
abbrev pub visibility_tag : ℕ
visibility_tag = 0x54_0037

-- an allow line: what a server says of an operation in a state
abbrev pub allow_line_tag : ℕ
allow_line_tag = 0x54_0038

-- the operation of an allow line
abbrev pub act_tag : ℕ
act_tag = 0x54_0039

-- the word of an allow line
abbrev pub allow_tag : ℕ
allow_tag = 0x54_003A

-- an own line: an attribute that the server itself gives an object at birth
abbrev pub own_line_tag : ℕ
own_line_tag = 0x54_003B

-- the owner of an entry's object
abbrev pub owner_tag : ℕ
owner_tag = 0x54_003C

-- an aside entry: an identifier that is set aside
abbrev pub aside_entry_tag : ℕ
aside_entry_tag = 0x54_003D

-- the header of a witness
abbrev pub witness_header_tag : ℕ
witness_header_tag = 0x54_0040

-- the turn of a call
abbrev pub turn_tag : ℕ
turn_tag = 0x54_0041

-- a fill: a payload that a response leaves out
abbrev pub fill_tag : ℕ
fill_tag = 0x54_0042

-- the place of the item that a fill is for
abbrev pub filled_item_tag : ℕ
filled_item_tag = 0x54_0043

-- the response message of a call that did not end, in its turn
abbrev pub answer_tag : ℕ
answer_tag = 0x54_0044

-- the place of an item, where a turn says in which order they are taken
abbrev pub place_tag : ℕ
place_tag = 0x54_0045

-- the moment of a call, in its turn
abbrev pub turn_moment_tag : ℕ
turn_moment_tag = 0x54_0046

-- a birth: attributes that complete a request
abbrev pub birth_tag : ℕ
birth_tag = 0x54_0047

-- the place of an item that is set aside, in a turn
abbrev pub aside_tag : ℕ
aside_tag = 0x54_0048
