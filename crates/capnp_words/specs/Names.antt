-- The names of refusals, and their texts.
use Rattle.std.specs.Prelude.{ℕ, List, codes, ◌++◌, Bool, true, false}
use Rattle.std.specs.Fmt.{decimal}
use Rattle.capnp_words.specs.declared.error.ErrorKind.{ErrorKind}
use Rattle.capnp_words.specs.declared.error.ErrorKind.TheVariants.{AllocationFailed}
use Rattle.capnp_words.specs.declared.error.ErrorKind.TheVariants.{CannotCreateACanonicalMessageWithACapability}
use Rattle.capnp_words.specs.declared.error.ErrorKind.TheVariants.{CantHandleNonStructInlineComposite}
use Rattle.capnp_words.specs.declared.error.ErrorKind.TheVariants.{ExistingListPointerIsNotByteSized}
use Rattle.capnp_words.specs.declared.error.ErrorKind.TheVariants.{ExistingListValueIsIncompatibleWithExpectedType}
use Rattle.capnp_words.specs.declared.error.ErrorKind.TheVariants.{ExistingPointerIsNotAList}
use Rattle.capnp_words.specs.declared.error.ErrorKind.TheVariants.{ExpectedAPointerListButGotAListOfDataOnlyStructs}
use Rattle.capnp_words.specs.declared.error.ErrorKind.TheVariants.{ExpectedAPrimitiveListButGotAListOfPointerOnlyStructs}
use Rattle.capnp_words.specs.declared.error.ErrorKind.TheVariants.{FoundBitListWhereStructListWasExpected}
use Rattle.capnp_words.specs.declared.error.ErrorKind.TheVariants.{FoundStructListWhereBitListWasExpected}
use Rattle.capnp_words.specs.declared.error.ErrorKind.TheVariants.{InlineCompositeListsElementsOverrunItsWordCount}
use Rattle.capnp_words.specs.declared.error.ErrorKind.TheVariants.{InlineCompositeListsOfNonStructTypeAreNotSupported}
use Rattle.capnp_words.specs.declared.error.ErrorKind.TheVariants.{InvalidSegmentId}
use Rattle.capnp_words.specs.declared.error.ErrorKind.TheVariants.{MalformedDoubleFarPointer}
use Rattle.capnp_words.specs.declared.error.ErrorKind.TheVariants.{MessageContainsListPointerOfNonBytesWhereDataWasExpected}
use Rattle.capnp_words.specs.declared.error.ErrorKind.TheVariants.{MessageContainsListPointerOfNonBytesWhereTextWasExpected}
use Rattle.capnp_words.specs.declared.error.ErrorKind.TheVariants.{MessageContainsListWithIncompatibleElementType}
use Rattle.capnp_words.specs.declared.error.ErrorKind.TheVariants.{MessageContainsNonCapabilityPointerWhereCapabilityPointerWasExpected}
use Rattle.capnp_words.specs.declared.error.ErrorKind.TheVariants.{MessageContainsNonListPointerWhereDataWasExpected}
use Rattle.capnp_words.specs.declared.error.ErrorKind.TheVariants.{MessageContainsNonListPointerWhereListPointerWasExpected}
use Rattle.capnp_words.specs.declared.error.ErrorKind.TheVariants.{MessageContainsNonListPointerWhereTextWasExpected}
use Rattle.capnp_words.specs.declared.error.ErrorKind.TheVariants.{MessageContainsNonStructPointerWhereStructPointerWasExpected}
use Rattle.capnp_words.specs.declared.error.ErrorKind.TheVariants.{MessageContainsNullCapabilityPointer}
use Rattle.capnp_words.specs.declared.error.ErrorKind.TheVariants.{MessageContainsOutOfBoundsPointer}
use Rattle.capnp_words.specs.declared.error.ErrorKind.TheVariants.{MessageContainsTextThatIsNotNULTerminated}
use Rattle.capnp_words.specs.declared.error.ErrorKind.TheVariants.{MessageIsTooDeeplyNested}
use Rattle.capnp_words.specs.declared.error.ErrorKind.TheVariants.{MessageIsTooDeeplyNestedOrContainsCycles}
use Rattle.capnp_words.specs.declared.error.ErrorKind.TheVariants.{MessageTooLarge}
use Rattle.capnp_words.specs.declared.error.ErrorKind.TheVariants.{NestingLimitExceeded}
use Rattle.capnp_words.specs.declared.error.ErrorKind.TheVariants.{NoSuchPlace, ReadLimitExceeded}
use Rattle.capnp_words.specs.declared.error.ErrorKind.TheVariants.{TextBlobMissingNULTerminator}
use Rattle.capnp_words.specs.declared.error.ErrorKind.TheVariants.{TriedToReadFromNullArena}
use Rattle.capnp_words.specs.declared.error.ErrorKind.TheVariants.{UnexpectedFarPointer}
use Rattle.capnp_words.specs.declared.error.ErrorKind.TheVariants.{UnknownPointerType}

-- The name of a refusal.
abbrev pub name_of : ErrorKind → List ℕ
name_of AllocationFailed = codes "AllocationFailed"
name_of CannotCreateACanonicalMessageWithACapability =
    codes "CannotCreateACanonicalMessageWithACapability"
name_of CantHandleNonStructInlineComposite = codes "CantHandleNonStructInlineComposite"
name_of ExistingListPointerIsNotByteSized = codes "ExistingListPointerIsNotByteSized"
name_of ExistingListValueIsIncompatibleWithExpectedType =
    codes "ExistingListValueIsIncompatibleWithExpectedType"
name_of ExistingPointerIsNotAList = codes "ExistingPointerIsNotAList"
name_of ExpectedAPointerListButGotAListOfDataOnlyStructs =
    codes "ExpectedAPointerListButGotAListOfDataOnlyStructs"
name_of ExpectedAPrimitiveListButGotAListOfPointerOnlyStructs =
    codes "ExpectedAPrimitiveListButGotAListOfPointerOnlyStructs"
name_of FoundBitListWhereStructListWasExpected = codes "FoundBitListWhereStructListWasExpected"
name_of FoundStructListWhereBitListWasExpected = codes "FoundStructListWhereBitListWasExpected"
name_of InlineCompositeListsElementsOverrunItsWordCount =
    codes "InlineCompositeListsElementsOverrunItsWordCount"
name_of InlineCompositeListsOfNonStructTypeAreNotSupported =
    codes "InlineCompositeListsOfNonStructTypeAreNotSupported"
name_of (InvalidSegmentId _) = codes "InvalidSegmentId"
name_of MalformedDoubleFarPointer = codes "MalformedDoubleFarPointer"
name_of MessageContainsListPointerOfNonBytesWhereDataWasExpected =
    codes "MessageContainsListPointerOfNonBytesWhereDataWasExpected"
name_of MessageContainsListPointerOfNonBytesWhereTextWasExpected =
    codes "MessageContainsListPointerOfNonBytesWhereTextWasExpected"
name_of MessageContainsListWithIncompatibleElementType =
    codes "MessageContainsListWithIncompatibleElementType"
name_of MessageContainsNonCapabilityPointerWhereCapabilityPointerWasExpected =
    codes "MessageContainsNonCapabilityPointerWhereCapabilityPointerWasExpected"
name_of MessageContainsNonListPointerWhereDataWasExpected =
    codes "MessageContainsNonListPointerWhereDataWasExpected"
name_of MessageContainsNonListPointerWhereListPointerWasExpected =
    codes "MessageContainsNonListPointerWhereListPointerWasExpected"
name_of MessageContainsNonListPointerWhereTextWasExpected =
    codes "MessageContainsNonListPointerWhereTextWasExpected"
name_of MessageContainsNonStructPointerWhereStructPointerWasExpected =
    codes "MessageContainsNonStructPointerWhereStructPointerWasExpected"
name_of MessageContainsNullCapabilityPointer = codes "MessageContainsNullCapabilityPointer"
name_of MessageContainsOutOfBoundsPointer = codes "MessageContainsOutOfBoundsPointer"
name_of MessageContainsTextThatIsNotNULTerminated = codes "MessageContainsTextThatIsNotNULTerminated"
name_of MessageIsTooDeeplyNested = codes "MessageIsTooDeeplyNested"
name_of MessageIsTooDeeplyNestedOrContainsCycles = codes "MessageIsTooDeeplyNestedOrContainsCycles"
name_of (MessageTooLarge _) = codes "MessageTooLarge"
name_of NestingLimitExceeded = codes "NestingLimitExceeded"
name_of NoSuchPlace = codes "NoSuchPlace"
name_of ReadLimitExceeded = codes "ReadLimitExceeded"
name_of TextBlobMissingNULTerminator = codes "TextBlobMissingNULTerminator"
name_of TriedToReadFromNullArena = codes "TriedToReadFromNullArena"
name_of UnexpectedFarPointer = codes "UnexpectedFarPointer"
name_of UnknownPointerType = codes "UnknownPointerType"

-- The text that `{}` writes.
abbrev pub text_of : ErrorKind → List ℕ
text_of (InvalidSegmentId n) = codes "InvalidSegmentId(" ++ decimal n ++ codes ")"
text_of (MessageTooLarge n) = codes "MessageTooLarge(" ++ decimal n ++ codes ")"
text_of e = name_of e

-- Whether k is an error with which a request for words is refused.
abbrev pub is_allocation_name : ErrorKind → Bool
is_allocation_name AllocationFailed = true
is_allocation_name (MessageTooLarge n) = true
is_allocation_name k = false
