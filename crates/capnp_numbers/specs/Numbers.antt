-- What C sees of a refusal: a number. Its meaning never changes.
use Rattle.std.specs.Prelude.{ℕ}
use Rattle.capnp_words.specs.declared.error.ErrorKind.{ErrorKind}
use Rattle.capnp_words.specs.declared.error.ErrorKind.TheVariants.{AllocationFailed}
use Rattle.capnp_words.specs.declared.error.ErrorKind.TheVariants.{CannotCreateACanonicalMessageWithACapability}
use Rattle.capnp_words.specs.declared.error.ErrorKind.TheVariants.{CantHandleNonStructInlineComposite}
use Rattle.capnp_words.specs.declared.error.ErrorKind.TheVariants.{ExistingListPointerIsNotByteSized}
use Rattle.capnp_words.specs.declared.error.ErrorKind.TheVariants.{ExistingListValueIsIncompatibleWithExpectedType}
use Rattle.capnp_words.specs.declared.error.ErrorKind.TheVariants.{ExistingPointerIsNotAList}
use Rattle.capnp_words.specs.declared.error.ErrorKind.TheVariants.{ExpectedAPointerListButGotAListOfDataOnlyStructs}
use Rattle.capnp_words.specs.declared.error.ErrorKind.TheVariants.{ExpectedAPrimitiveListButGotAListOfPointerOnlyStructs}
use Rattle.capnp_words.specs.declared.error.ErrorKind.TheVariants.{FoundBitListWhereStructListWasExpected}
use Rattle.capnp_words.specs.declared.error.ErrorKind.TheVariants.{FoundStructListWhereBitListWasExpected}
use Rattle.capnp_words.specs.declared.error.ErrorKind.TheVariants.{InlineCompositeListsElementsOverrunItsWordCount}
use Rattle.capnp_words.specs.declared.error.ErrorKind.TheVariants.{InlineCompositeListsOfNonStructTypeAreNotSupported}
use Rattle.capnp_words.specs.declared.error.ErrorKind.TheVariants.{InvalidSegmentId}
use Rattle.capnp_words.specs.declared.error.ErrorKind.TheVariants.{MalformedDoubleFarPointer}
use Rattle.capnp_words.specs.declared.error.ErrorKind.TheVariants.{MessageContainsListPointerOfNonBytesWhereDataWasExpected}
use Rattle.capnp_words.specs.declared.error.ErrorKind.TheVariants.{MessageContainsListPointerOfNonBytesWhereTextWasExpected}
use Rattle.capnp_words.specs.declared.error.ErrorKind.TheVariants.{MessageContainsListWithIncompatibleElementType}
use Rattle.capnp_words.specs.declared.error.ErrorKind.TheVariants.{MessageContainsNonCapabilityPointerWhereCapabilityPointerWasExpected}
use Rattle.capnp_words.specs.declared.error.ErrorKind.TheVariants.{MessageContainsNonListPointerWhereDataWasExpected}
use Rattle.capnp_words.specs.declared.error.ErrorKind.TheVariants.{MessageContainsNonListPointerWhereListPointerWasExpected}
use Rattle.capnp_words.specs.declared.error.ErrorKind.TheVariants.{MessageContainsNonListPointerWhereTextWasExpected}
use Rattle.capnp_words.specs.declared.error.ErrorKind.TheVariants.{MessageContainsNonStructPointerWhereStructPointerWasExpected}
use Rattle.capnp_words.specs.declared.error.ErrorKind.TheVariants.{MessageContainsNullCapabilityPointer}
use Rattle.capnp_words.specs.declared.error.ErrorKind.TheVariants.{MessageContainsOutOfBoundsPointer}
use Rattle.capnp_words.specs.declared.error.ErrorKind.TheVariants.{MessageContainsTextThatIsNotNULTerminated}
use Rattle.capnp_words.specs.declared.error.ErrorKind.TheVariants.{MessageIsTooDeeplyNested}
use Rattle.capnp_words.specs.declared.error.ErrorKind.TheVariants.{MessageIsTooDeeplyNestedOrContainsCycles}
use Rattle.capnp_words.specs.declared.error.ErrorKind.TheVariants.{MessageTooLarge}
use Rattle.capnp_words.specs.declared.error.ErrorKind.TheVariants.{NestingLimitExceeded}
use Rattle.capnp_words.specs.declared.error.ErrorKind.TheVariants.{NoSuchPlace, ReadLimitExceeded}
use Rattle.capnp_words.specs.declared.error.ErrorKind.TheVariants.{TextBlobMissingNULTerminator}
use Rattle.capnp_words.specs.declared.error.ErrorKind.TheVariants.{TriedToReadFromNullArena}
use Rattle.capnp_words.specs.declared.error.ErrorKind.TheVariants.{UnexpectedFarPointer}
use Rattle.capnp_words.specs.declared.error.ErrorKind.TheVariants.{UnknownPointerType}
use Rattle.capnp_framing.specs.declared.framing.frame_error.FrameError.{FrameError}
use Rattle.capnp_framing.specs.declared.framing.frame_error.FrameError.TheVariants.{NoSegments}
use Rattle.capnp_framing.specs.declared.framing.frame_error.FrameError.TheVariants.{TooManySegments}
use Rattle.capnp_framing.specs.declared.framing.frame_error.FrameError.TheVariants.{MessageTooLong}
use Rattle.capnp_framing.specs.declared.framing.frame_error.FrameError.TheVariants.{Truncated}
use Rattle.capnp_framing.specs.declared.framing.frame_error.FrameError.TheVariants.{ReadFailed}
use Rattle.capnp_framing.specs.declared.framing.frame_error.FrameError.TheVariants.{WriteFailed}
use Rattle.capnp_framing.specs.declared.framing.frame_error.FrameError.TheVariants.{AllocationFailed as NoMemory}

-- There isn't enough room in a buffer, or in an array.
abbrev pub no_room_number : ℕ
no_room_number = 1

-- There are no bytes where a frame was expected.
abbrev pub no_message_number : ℕ
no_message_number = 2

-- The number of a frame's refusal.
abbrev pub frame_error_number : FrameError → ℕ
frame_error_number NoSegments = 16
frame_error_number (TooManySegments _) = 17
frame_error_number (MessageTooLong _) = 18
frame_error_number Truncated = 19
frame_error_number ReadFailed = 20
frame_error_number WriteFailed = 21
frame_error_number NoMemory = 22

-- The number of a refusal of what a message means.
abbrev pub error_number : ErrorKind → ℕ
error_number AllocationFailed = 32
error_number CannotCreateACanonicalMessageWithACapability = 33
error_number CantHandleNonStructInlineComposite = 34
error_number ExistingListPointerIsNotByteSized = 35
error_number ExistingListValueIsIncompatibleWithExpectedType = 36
error_number ExistingPointerIsNotAList = 37
error_number ExpectedAPointerListButGotAListOfDataOnlyStructs = 38
error_number ExpectedAPrimitiveListButGotAListOfPointerOnlyStructs = 39
error_number FoundBitListWhereStructListWasExpected = 40
error_number FoundStructListWhereBitListWasExpected = 41
error_number InlineCompositeListsElementsOverrunItsWordCount = 42
error_number InlineCompositeListsOfNonStructTypeAreNotSupported = 43
error_number (InvalidSegmentId _) = 44
error_number MalformedDoubleFarPointer = 45
error_number MessageContainsListPointerOfNonBytesWhereDataWasExpected = 46
error_number MessageContainsListPointerOfNonBytesWhereTextWasExpected = 47
error_number MessageContainsListWithIncompatibleElementType = 48
error_number MessageContainsNonCapabilityPointerWhereCapabilityPointerWasExpected = 49
error_number MessageContainsNonListPointerWhereDataWasExpected = 50
error_number MessageContainsNonListPointerWhereListPointerWasExpected = 51
error_number MessageContainsNonListPointerWhereTextWasExpected = 52
error_number MessageContainsNonStructPointerWhereStructPointerWasExpected = 53
error_number MessageContainsNullCapabilityPointer = 54
error_number MessageContainsOutOfBoundsPointer = 55
error_number MessageContainsTextThatIsNotNULTerminated = 56
error_number MessageIsTooDeeplyNested = 57
error_number MessageIsTooDeeplyNestedOrContainsCycles = 58
error_number (MessageTooLarge _) = 59
error_number NestingLimitExceeded = 60
error_number NoSuchPlace = 61
error_number ReadLimitExceeded = 62
error_number TextBlobMissingNULTerminator = 63
error_number TriedToReadFromNullArena = 64
error_number UnexpectedFarPointer = 65
error_number UnknownPointerType = 66
