-- The arguments after the program's name, and what they request. Options and files may come in any
-- order, but the command comes before the files.
use Rattle.std.specs.Prelude.{ℕ, ℤ, ◌+◌, ◌^◌, ◌==◌, nat_lt, pos, neg_ℤ, List, [], ◌∷◌, length, drop, codes, find}
use Rattle.std.specs.Prelude.{unwrap_or, is_some, Option, Some, None, Result, Ok, Err, Bool, true, false, not, ◌&&◌, ◌||◌, if◌then◌else◌}
use Rattle.std.specs.Int.Signed.{mag}
use Rattle.std.specs.List.{after_first, before_first, position_or_len}
use Rattle.std.specs.Option.{option_map, option_or}
use Rattle.std.specs.Str.{bytes_eq}
use Rattle.std.specs.Str.Parse.{digits_value, starts_with_minus}
use Rattle.capnp_messages.specs.declared.messages.command.Command.{Command}
use Rattle.capnp_messages.specs.declared.messages.command.Command.TheVariants.{Canon, Check, Size, Digest, Validate}
use Rattle.capnp_messages.specs.declared.messages.command.Form.{Form}
use Rattle.capnp_messages.specs.declared.messages.command.Form.TheVariants.{Framed, Flat}
use Rattle.capnp_streams.specs.Paths.{is_numeral, is_whole_path, no_path, path_of}
use Rattle.capnp_streams.specs.declared.streams.arguments.ArgumentFault.{ArgumentFault}
use Rattle.capnp_streams.specs.declared.streams.arguments.ArgumentFault.TheVariants.{MissingCommand, UnknownCommand, UnknownOption}
use Rattle.capnp_streams.specs.declared.streams.arguments.ArgumentFault.TheVariants.{MissingValue, InvalidValue, InvalidAssignment, UnwantedValue}
use Rattle.capnp_streams.specs.declared.streams.arguments.ArgumentFault.TheVariants.{NotOfCommand, Excluded, Needs}
use Rattle.capnp_streams.specs.declared.streams.arguments.ParsedArguments.{ParsedArguments}
use Rattle.capnp_streams.specs.declared.streams.input_form.InputForm.{InputForm}
use Rattle.capnp_streams.specs.declared.streams.input_form.InputForm.TheVariants.{Frames, PackedFrames, RawWords}
use Rattle.capnp_streams.specs.declared.streams.options.OptionName.{OptionName}
use Rattle.capnp_streams.specs.declared.streams.options.OptionName.TheVariants.{Help, HelpLetter, Version, VersionLetter, End, Plain, Valued}
use Rattle.capnp_streams.specs.declared.streams.options.PlainOption.{PlainOption}
use Rattle.capnp_streams.specs.declared.streams.options.PlainOption.TheVariants.{Packed, Pack, Flat as FlatName, FromFlat, Hex, Quiet}
use Rattle.capnp_streams.specs.declared.streams.options.PlainOption.TheVariants.{Check as CheckName, CheckLetter, Json, Values, Color}
use Rattle.capnp_streams.specs.declared.streams.options.ValueOption.{ValueOption}
use Rattle.capnp_streams.specs.declared.streams.options.ValueOption.TheVariants.{Nesting, Words, At, Depth, Bytes}
use Rattle.capnp_streams.specs.declared.streams.arguments.ArgumentStep.{ArgumentStep}
use Rattle.capnp_streams.specs.declared.streams.arguments.ArgumentStep.TheVariants.{Goes, File, Stops}
use Rattle.capnp_streams.specs.declared.streams.options.Subcommand.{Subcommand}
use Rattle.capnp_streams.specs.declared.streams.options.Subcommand.TheVariants.{Canon as ToCanon, Check as ToCheck, Size as ToSize, Digest as ToDigest, Validate as ToValidate, Show as ToShow, Diff as ToDiff}
use Rattle.capnp_streams.specs.declared.streams.task.Request.{Request}
use Rattle.capnp_streams.specs.declared.streams.task.Request.TheVariants.{Help as AskHelp, Version as AskVersion, Run, Show, Diff}
use Rattle.capnp_streams.specs.declared.streams.task.DiffTask.{DiffTask}
use Rattle.capnp_streams.specs.declared.streams.task.ShowTask.{ShowTask}
use Rattle.capnp_streams.specs.declared.streams.task.Task.{Task}
use Rattle.capnp_streams.specs.declared.streams.task.WrongArgument.{WrongArgument}

-- The text of an option that takes no value and says something about the task.
abbrev pub plain_option_text : PlainOption → List ℕ
plain_option_text Packed = codes "--packed"
plain_option_text Pack = codes "--pack"
plain_option_text FlatName = codes "--flat"
plain_option_text FromFlat = codes "--from-flat"
plain_option_text Hex = codes "--hex"
plain_option_text Quiet = codes "--quiet"
plain_option_text CheckName = codes "--check"
plain_option_text CheckLetter = codes "-c"
plain_option_text Json = codes "--json"
plain_option_text Values = codes "--values"
plain_option_text Color = codes "--color"

-- The text of an option with a value.
abbrev pub value_option_text : ValueOption → List ℕ
value_option_text Nesting = codes "--nesting"
value_option_text Words = codes "--words"
value_option_text At = codes "--at"
value_option_text Depth = codes "--depth"
value_option_text Bytes = codes "--bytes"

-- The text of an option.
abbrev pub option_text : OptionName → List ℕ
option_text Help = codes "--help"
option_text HelpLetter = codes "-h"
option_text Version = codes "--version"
option_text VersionLetter = codes "-V"
option_text End = codes "--"
option_text (Plain option) = plain_option_text option
option_text (Valued option) = value_option_text option

abbrev pub all_options : List OptionName
all_options =
    Help ∷ HelpLetter ∷ Version ∷ VersionLetter ∷ End
    ∷ Plain Packed ∷ Plain Pack ∷ Plain FlatName ∷ Plain FromFlat ∷ Plain Hex ∷ Plain Quiet
    ∷ Plain CheckName ∷ Plain CheckLetter
    ∷ Plain Json ∷ Plain Values ∷ Plain Color
    ∷ Valued Nesting ∷ Valued Words ∷ Valued At ∷ Valued Depth ∷ Valued Bytes ∷ []

-- The option among `options` that has this text.
abbrev pub option_among : List OptionName → List ℕ → Option OptionName
option_among options text = find (λ option. bytes_eq (option_text option) text) options

-- The option that has this text.
abbrev pub option_named : List ℕ → Option OptionName
option_named text = option_among all_options text

-- The text of a command.
abbrev pub subcommand_text : Subcommand → List ℕ
subcommand_text ToCanon = codes "canon"
subcommand_text ToCheck = codes "check"
subcommand_text ToSize = codes "size"
subcommand_text ToDigest = codes "digest"
subcommand_text ToValidate = codes "validate"
subcommand_text ToShow = codes "show"
subcommand_text ToDiff = codes "diff"

-- The command that has this text.
abbrev pub subcommand_named : List ℕ → Option Subcommand
subcommand_named text =
    if bytes_eq text (subcommand_text ToCanon) then Some ToCanon else
    if bytes_eq text (subcommand_text ToCheck) then Some ToCheck else
    if bytes_eq text (subcommand_text ToSize) then Some ToSize else
    if bytes_eq text (subcommand_text ToDigest) then Some ToDigest else
    if bytes_eq text (subcommand_text ToValidate) then Some ToValidate else
    if bytes_eq text (subcommand_text ToShow) then Some ToShow else
    if bytes_eq text (subcommand_text ToDiff) then Some ToDiff else None

-- What follows an optional `-`, and the number that both write.
abbrev pub unsigned_text : List ℕ → List ℕ
unsigned_text text = if starts_with_minus text then drop 1 text else text

abbrev pub signed_value : List ℕ → ℤ
signed_value text =
    let value = pos (digits_value 10 (unsigned_text text)) in
    if starts_with_minus text then neg_ℤ value else value

-- The nesting limit that a text writes: an optional `-` and decimal digits, with a value of i32.
abbrev pub nesting_of : List ℕ → Option ℤ
nesting_of text =
    if is_numeral (unsigned_text text) && nat_lt (mag (signed_value text)) (2 ^ 31)
    then Some (signed_value text) else None

-- The traversal limit in words, or the number of bytes, that a text writes: decimal digits with a
-- value below 2^64, or the word `none` for no limit.
abbrev pub budget_of : List ℕ → Option (Option ℕ)
budget_of text =
    if bytes_eq text (codes "none") then Some None else
    if is_numeral text && nat_lt (digits_value 10 text) (2 ^ 64)
    then Some (Some (digits_value 10 text)) else None

-- No arguments yet: a nesting limit of 64, and a traversal limit of 8,388,608 words.
abbrev pub no_arguments : ParsedArguments
no_arguments = record {
  subcommand = None;
  limits = record { traversal_limit_in_words = Some 8388608; nesting_limit = pos 64 };
  unpack = false;
  pack = false;
  flat = false;
  from_flat = false;
  hex = false;
  quiet = false;
  lists = false;
  path = no_path;
  json = false;
  values = false;
  depth = None;
  colors = false;
  bytes = None;
  expects = None;
  ended = false;
}

-- Whether the input is one message's raw words: `--from-flat` says so, and for all commands but
-- `canon` also `--flat`.
abbrev pub verb_reads_flat : Option Subcommand → Bool → Bool → Bool
verb_reads_flat None flat from_flat = from_flat
verb_reads_flat (Some ToCanon) flat from_flat = from_flat
verb_reads_flat (Some subcommand) flat from_flat = flat || from_flat

abbrev pub parsed_reads_flat : ParsedArguments → Bool
parsed_reads_flat line = verb_reads_flat line.subcommand line.flat line.from_flat

-- How a line requests to read the input. No request is for both packed frames and raw words.
abbrev pub parsed_input_form : ParsedArguments → InputForm
parsed_input_form line =
    if line.unpack then PackedFrames else if parsed_reads_flat line then RawWords else Frames

-- Which options a command has. All commands have the other options.
abbrev pub writes_words : Subcommand → Bool
writes_words ToCanon = true
writes_words _ = false

abbrev pub can_be_quiet : Subcommand → Bool
can_be_quiet ToCheck = true
can_be_quiet ToDigest = true
can_be_quiet ToValidate = true
can_be_quiet ToDiff = true
can_be_quiet _ = false

abbrev pub reads_lists : Subcommand → Bool
reads_lists ToDigest = true
reads_lists _ = false

abbrev pub takes_path : Subcommand → Bool
takes_path ToCanon = true
takes_path ToSize = true
takes_path ToDigest = true
takes_path ToShow = true
takes_path _ = false

abbrev pub shows : Subcommand → Bool
shows ToShow = true
shows _ = false

-- An option of the line that only `show` has.
abbrev pub option_of_show : ParsedArguments → Option OptionName
option_of_show line =
    if line.json then Some (Plain Json) else
    if line.values then Some (Plain Values) else
    if is_some line.depth then Some (Valued Depth) else
    if line.colors then Some (Plain Color) else
    if is_some line.bytes then Some (Valued Bytes) else None

-- An option of the line that a command doesn't have.
abbrev pub unsupported_option : Subcommand → ParsedArguments → Option OptionName
unsupported_option subcommand line =
    if line.pack && not (writes_words subcommand) then Some (Plain Pack) else
    if line.hex && not (writes_words subcommand) then Some (Plain Hex) else
    if line.quiet && not (can_be_quiet subcommand) then Some (Plain Quiet) else
    if line.lists && not (reads_lists subcommand) then Some (Plain CheckName) else
    if not (is_whole_path line.path) && not (takes_path subcommand) then Some (Valued At) else
    if shows subcommand then None else option_of_show line

abbrev pub unsupported_option_fault : Option Subcommand → ParsedArguments → Option ArgumentFault
unsupported_option_fault None line = None
unsupported_option_fault (Some subcommand) line =
    option_map (NotOfCommand subcommand) (unsupported_option subcommand line)

-- Two options of the line that exclude each other: hex digits are written neither as raw words nor
-- packed, JSON has no colors, and raw words aren't unpacked.
abbrev pub conflicting_options_fault : ParsedArguments → Option ArgumentFault
conflicting_options_fault line =
    if line.hex && line.flat then Some (Excluded Hex FlatName) else
    if line.hex && line.pack then Some (Excluded Hex Pack) else
    if line.json && line.colors then Some (Excluded Json Color) else
    if line.unpack && line.from_flat then Some (Excluded Packed FromFlat) else
    if line.unpack && parsed_reads_flat line then Some (Excluded Packed FlatName) else None

-- Why the arguments of the line don't go together; `None` if they do.
abbrev pub option_fault_of : ParsedArguments → Option ArgumentFault
option_fault_of line =
    option_or (unsupported_option_fault line.subcommand line) (conflicting_options_fault line)

abbrev pub step_unless : Option ArgumentFault → ParsedArguments → Result ArgumentStep ArgumentFault
step_unless None line = Ok (Goes line)
step_unless (Some fault) line = Err fault

-- The step to a line, if its arguments go together.
abbrev pub step_if_allowed : ParsedArguments → Result ArgumentStep ArgumentFault
step_if_allowed line = step_unless (option_fault_of line) line

-- The line with the value of an option added, if the text writes one.
abbrev pub parsed_with_value : ValueOption → List ℕ → ParsedArguments → Option ParsedArguments
parsed_with_value Nesting text line = option_map (λ n. record line {
  limits = record line.limits { nesting_limit = n };
  expects = None;
}) (nesting_of text)
parsed_with_value Words text line = option_map (λ n. record line {
  limits = record line.limits { traversal_limit_in_words = n };
  expects = None;
}) (budget_of text)
parsed_with_value At text line =
    option_map (λ p. record line { path = p; expects = None }) (path_of text)
parsed_with_value Depth text line = option_map (λ n. record line {
  depth = Some n;
  expects = None;
}) (nesting_of text)
parsed_with_value Bytes text line = option_map (λ n. record line {
  bytes = Some n;
  expects = None;
}) (budget_of text)

abbrev pub step_or : ArgumentFault → Option ParsedArguments → Result ArgumentStep ArgumentFault
step_or fault None = Err fault
step_or fault (Some line) = step_if_allowed line

-- The line with an option that takes no value.
abbrev pub with_option : PlainOption → ParsedArguments → ParsedArguments
with_option Packed line = record line { unpack = true }
with_option Pack line = record line { pack = true }
with_option FlatName line = record line { flat = true }
with_option FromFlat line = record line { from_flat = true }
with_option Hex line = record line { hex = true }
with_option Quiet line = record line { quiet = true }
with_option CheckName line = record line { lists = true }
with_option CheckLetter line = record line { lists = true }
with_option Json line = record line { json = true }
with_option Values line = record line { values = true }
with_option Color line = record line { colors = true }

-- The step of an option without a `=` and a value after it.
abbrev pub option_step : OptionName → ParsedArguments → Result ArgumentStep ArgumentFault
option_step Help line = Ok (Stops AskHelp)
option_step HelpLetter line = Ok (Stops AskHelp)
option_step Version line = Ok (Stops AskVersion)
option_step VersionLetter line = Ok (Stops AskVersion)
option_step End line = Ok (Goes (record line { ended = true }))
option_step (Plain option) line = step_if_allowed (with_option option line)
option_step (Valued option) line = Ok (Goes (record line { expects = Some option }))

-- The step of an option with a `=` and a value after it.
abbrev pub assigned_step :
    Option OptionName → List ℕ → ParsedArguments → Result ArgumentStep ArgumentFault
assigned_step None value line = Err UnknownOption
assigned_step (Some (Valued option)) value line =
    step_or (InvalidAssignment option) (parsed_with_value option value line)
assigned_step (Some option) value line = Err (UnwantedValue option)

-- Whether a byte separates an option from its value.
abbrev pub is_equals : ℕ → Bool
is_equals b = b == 61

-- The step of a text that isn't an option by itself.
abbrev pub parted_step : List ℕ → ParsedArguments → Result ArgumentStep ArgumentFault
parted_step text line =
    if nat_lt (position_or_len is_equals text) (length text)
    then
    assigned_step (option_named (before_first is_equals text)) (after_first is_equals text) line
    else Err UnknownOption

abbrev pub named_step :
    Option OptionName → List ℕ → ParsedArguments → Result ArgumentStep ArgumentFault
named_step (Some option) text line = option_step option line
named_step None text line = parted_step text line

abbrev pub command_step : Option Subcommand → ParsedArguments → Result ArgumentStep ArgumentFault
command_step None line = Err UnknownCommand
command_step (Some subcommand) line = step_if_allowed (record line { subcommand = Some subcommand })

-- The step of an argument that is neither an option nor the value of one: the command, if there is
-- none yet, and otherwise a file.
abbrev pub operand_step :
    Option Subcommand → List ℕ → ParsedArguments → Result ArgumentStep ArgumentFault
operand_step None text line = command_step (subcommand_named text) line
operand_step (Some subcommand) text line = Ok File

-- Whether a text has the form of an option: a `-` and more after it. All others can be files; `-`
-- is standard input.
abbrev pub has_option_form : List ℕ → Bool
has_option_form text = starts_with_minus text && nat_lt 1 (length text)

abbrev pub step_by :
    Option ValueOption → List ℕ → ParsedArguments → Result ArgumentStep ArgumentFault
step_by (Some value_option) text line =
    step_or (InvalidValue value_option) (parsed_with_value value_option text line)
step_by None text line =
    if has_option_form text && not line.ended
    then named_step (option_named text) text line
    else operand_step line.subcommand text line

-- What an argument adds to a line: the value of the option before it, if that waits for one;
-- otherwise an option, unless a `--` came before; otherwise the command or a file.
abbrev pub argument_step : List ℕ → ParsedArguments → Result ArgumentStep ArgumentFault
argument_step text line = step_by line.expects text line

-- The form of canonical words that a line requests.
abbrev pub parsed_form : ParsedArguments → Form
parsed_form line = if line.flat then Flat else Framed

-- The task that a line requests, with this command for the messages.
abbrev pub parsed_task : Command → ParsedArguments → Task
parsed_task command line = record {
  command = command;
  limits = line.limits;
  input_form = parsed_input_form line;
  pack = line.pack;
  hex = line.hex;
  quiet = line.quiet;
  lists = line.lists;
  path = line.path;
}

-- How a line requests to show messages: 64 pointers deep, if it doesn't state a depth, and with at
-- most 1,073,741,824 bytes, if it doesn't state a number of them.
abbrev pub parsed_show : ParsedArguments → ShowTask
parsed_show line = record {
  json = line.json;
  values = line.values;
  colors = line.colors;
  depth = unwrap_or line.depth (pos 64);
  bytes = unwrap_or line.bytes (Some 1073741824);
  path = line.path;
  limits = line.limits;
  input_form = parsed_input_form line;
}

-- How a line requests to compare messages.
abbrev pub parsed_diff : ParsedArguments → DiffTask
parsed_diff line = record {
  limits = line.limits;
  input_form = parsed_input_form line;
  quiet = line.quiet;
}

-- The request of a line with this command.
abbrev pub parsed_request : Subcommand → ParsedArguments → Request
parsed_request ToCanon line = Run (parsed_task (Canon (parsed_form line)) line)
parsed_request ToCheck line = Run (parsed_task Check line)
parsed_request ToSize line = Run (parsed_task Size line)
parsed_request ToDigest line = Run (parsed_task Digest line)
parsed_request ToValidate line = Run (parsed_task Validate line)
parsed_request ToShow line = Show (parsed_show line)
parsed_request ToDiff line = Diff (parsed_diff line)

-- Whether `digest` has `--quiet` without `--check`.
abbrev pub lacks_check : Subcommand → ParsedArguments → Bool
lacks_check subcommand line = reads_lists subcommand && line.quiet && not line.lists

abbrev pub end_by :
    Option ValueOption → Option Subcommand → ParsedArguments → Result Request ArgumentFault
end_by (Some value_option) subcommand line = Err (MissingValue value_option)
end_by None None line = Err MissingCommand
end_by None (Some subcommand) line =
    if lacks_check subcommand line then Err (Needs Quiet CheckName) else
    Ok (parsed_request subcommand line)

-- What a line requests if no argument follows.
abbrev pub end_of : ParsedArguments → Result Request ArgumentFault
end_of line = end_by line.expects line.subcommand line

abbrev pub located : ℕ → Result Request ArgumentFault → Result Request WrongArgument
located at (Ok r) = Ok r
located at (Err fault) = Err (record { at = at; fault = fault })

abbrev pub request_after :
    Result ArgumentStep ArgumentFault → ParsedArguments → ℕ
    → (ParsedArguments → Result Request WrongArgument) → Result Request WrongArgument
request_after (Ok (Goes next)) line at rest = rest next
request_after (Ok File) line at rest = rest line
request_after (Ok (Stops r)) line at rest = Ok r
request_after (Err fault) line at rest = Err (record { at = at; fault = fault })

-- What arguments request after `at` others that made the line: a request, or the first argument
-- that can't follow those before it and what is wrong with it, or what is missing at the end.
abbrev pub request_from : ParsedArguments → ℕ → List (List ℕ) → Result Request WrongArgument
request_from line at [] = located at (end_of line)
request_from line at (text ∷ more) =
    request_after (argument_step text line) line at (λ next. request_from next (at + 1) more)

-- What the arguments request.
abbrev pub request_of : List (List ℕ) → Result Request WrongArgument
request_of texts = request_from no_arguments 0 texts

abbrev pub files_after :
    Result ArgumentStep ArgumentFault → List ℕ → ParsedArguments
    → (ParsedArguments → List (List ℕ)) → List (List ℕ)
files_after (Ok (Goes next)) text line rest = rest next
files_after (Ok File) text line rest = text ∷ rest line
files_after (Ok (Stops r)) text line rest = []
files_after (Err fault) text line rest = []

-- The files among arguments after others that made the line.
abbrev pub files_from : ParsedArguments → List (List ℕ) → List (List ℕ)
files_from line [] = []
files_from line (text ∷ more) =
    files_after (argument_step text line) text line (λ next. files_from next more)

-- The files among the arguments, in order.
abbrev pub files_of : List (List ℕ) → List (List ℕ)
files_of texts = files_from no_arguments texts
