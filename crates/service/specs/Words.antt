-- A sync header in words. Assumes nothing.
use Rattle.std.specs.Prelude.{ℕ, Bool, true, false, List, ◌++◌, codes, decimal, Option}
use Rattle.spelling.specs.Optional.{optional_words}
use Rattle.service.specs.declared.header.HeaderFault.{HeaderFault}
use Rattle.service.specs.declared.header.HeaderFault.TheVariants.{Empty, ReservedBits, FrameIdPresence, FlagForKind, NoPayload, FrameIdRange, BufferLength}
use Rattle.service.specs.declared.header.Kind.{Kind}
use Rattle.service.specs.declared.header.Kind.TheVariants.{Video, Audio, TimedData, Adaptation}
use Rattle.service.specs.declared.header.SyncHeader.{SyncHeader}

-- the word in scripts, names and data
abbrev pub word_of_kind : Kind → List ℕ
word_of_kind Video = codes "video"
word_of_kind Audio = codes "audio"
word_of_kind TimedData = codes "data"
word_of_kind Adaptation = codes "adaptation"

abbrev pub kind_words : Kind → List ℕ
kind_words Video = codes "video"
kind_words Audio = codes "audio"
kind_words TimedData = codes "timed data"
kind_words Adaptation = codes "adaptation"

abbrev pub frame_words : Option ℕ → List ℕ
frame_words id = optional_words decimal (codes "frame ") id (codes "no frame")

abbrev pub timestamp_words : Option ℕ → List ℕ
timestamp_words time = optional_words decimal (codes "timestamp ") time (codes "no timestamp")

abbrev pub access_words : Bool → List ℕ
access_words true = codes "random access point"
access_words false = codes "no random access point"

abbrev pub reference_words : Bool → List ℕ
reference_words true = codes "unreferenced"
reference_words false = codes "referenced"

abbrev pub comma : List ℕ
comma = codes ", "

-- as in: video, frame 0, no timestamp, random access point, referenced
abbrev pub header_words : SyncHeader → List ℕ
header_words h =
    kind_words h.kind
    ++ (comma
    ++ (frame_words h.frame_id
    ++ (comma
    ++ (timestamp_words h.timestamp
    ++ (comma ++ (access_words h.access_point ++ (comma ++ reference_words h.unreferenced)))))))

-- what is wrong, in words
abbrev pub fault_words : HeaderFault → List ℕ
fault_words Empty = codes "the packet is empty, so it has no header"
fault_words ReservedBits = codes "bit 7 or 8 of the first byte is set, and neither has a meaning"
fault_words FrameIdPresence = codes "video, audio and timed data have a frame id, and adaptation has none"
fault_words FlagForKind = codes "only video and audio have random access points, and only video has unreferenced frames"
fault_words NoPayload = codes "the header's fields and at least one byte of payload must follow the first byte"
fault_words FrameIdRange = codes "the frame id of a video packet is at most 59"
fault_words BufferLength = codes "the buffer is too short for the header and the payload"
