-- The number of a refusal, and of a reason, is its position among all of them.
use Rattle.std.proofs.Common.{◌≡◌, ℕ, zero, suc, ◌+◌, ◌-◌, ◌<◌, ◌≤◌, List, [], ◌∷◌, length, slice_index_or}
use Rattle.std.proofs.Common.{refl, subst, arith}
use Rattle.capnp_words.specs.Names.{name_of}
use Rattle.capnp_pointers.specs.CanonicalFaults.{fault_reason_text}
use Rattle.capnp_canonical.specs.Numbers.{answer_name, answer_number, reason_number}
use Rattle.capnp_numbers.specs.Numbers.{error_number, frame_error_number}
use Rattle.capnp_canonical.specs.Texts.{IsTextOf}
use Rattle.capnp_words.specs.declared.error.ErrorKind.{ErrorKind}
use Rattle.capnp_words.specs.declared.error.ErrorKind.TheVariants.{AllocationFailed, CannotCreateACanonicalMessageWithACapability, CantHandleNonStructInlineComposite, ExistingListPointerIsNotByteSized, ExistingListValueIsIncompatibleWithExpectedType, ExistingPointerIsNotAList, ExpectedAPointerListButGotAListOfDataOnlyStructs, ExpectedAPrimitiveListButGotAListOfPointerOnlyStructs, FoundBitListWhereStructListWasExpected, FoundStructListWhereBitListWasExpected, InlineCompositeListsElementsOverrunItsWordCount, InlineCompositeListsOfNonStructTypeAreNotSupported, InvalidSegmentId, MalformedDoubleFarPointer, MessageContainsListPointerOfNonBytesWhereDataWasExpected, MessageContainsListPointerOfNonBytesWhereTextWasExpected, MessageContainsListWithIncompatibleElementType, MessageContainsNonCapabilityPointerWhereCapabilityPointerWasExpected, MessageContainsNonListPointerWhereDataWasExpected, MessageContainsNonListPointerWhereListPointerWasExpected, MessageContainsNonListPointerWhereTextWasExpected, MessageContainsNonStructPointerWhereStructPointerWasExpected, MessageContainsNullCapabilityPointer, MessageContainsOutOfBoundsPointer, MessageContainsTextThatIsNotNULTerminated, MessageIsTooDeeplyNested, MessageIsTooDeeplyNestedOrContainsCycles, MessageTooLarge, NestingLimitExceeded, NoSuchPlace, ReadLimitExceeded, TextBlobMissingNULTerminator, TriedToReadFromNullArena, UnexpectedFarPointer, UnknownPointerType}
use Rattle.capnp_framing.specs.declared.framing.frame_error.FrameError.{FrameError}
use Rattle.capnp_framing.specs.declared.framing.frame_error.FrameError.TheVariants.{NoSegments, TooManySegments, MessageTooLong, Truncated, ReadFailed, WriteFailed, AllocationFailed as NoMemory}
use Rattle.capnp_pointers.specs.declared.pointers.canonical_fault.CanonicalFaultReason.{CanonicalFaultReason}
use Rattle.capnp_pointers.specs.declared.pointers.canonical_fault.CanonicalFaultReason.TheVariants.{SegmentCount, NoPointer, FarPointer, Capability, UnknownPointer, EmptyStructPlace, ObjectPlace, Padding, DataSection, PointerSection, ElementWords, ElementData, ElementPointers, WordsBehind}
use Rattle.capnp_canonical.specs.declared.refusal.Refusal.{Refusal}
use Rattle.capnp_canonical.specs.declared.refusal.Refusal.TheVariants.{NoRoom, NoMessage, SegmentIsNotWholeWords, Frame, Layout}

-- The items of a list have numbers from one on, in order.
abbrev AreNumbered : {X : Type 0} → (X → ℕ) → ℕ → List X → Type 0
AreNumbered number first [] = Unit {0}
AreNumbered number first (x ∷ xs) = (number x ≡ first) × AreNumbered number (suc first) xs

numbered_at : {X : Type 0} (number : X → ℕ) (first : ℕ) (xs : List X) (i : ℕ) (d : X) →
    AreNumbered number first xs → i < length xs → number (slice_index_or xs i d) ≡ first + i
numbered_at number first [] i d are less = absurd (omega arith)
numbered_at number first (x ∷ xs) zero d are less = omega (arith, are.0)
numbered_at number first (x ∷ xs) (suc i) d are less =
    omega (arith, numbered_at number (suc first) xs i d are.1 (omega arith))

abbrev kinds : List ErrorKind
kinds =
    AllocationFailed ∷ CannotCreateACanonicalMessageWithACapability ∷
    CantHandleNonStructInlineComposite ∷ ExistingListPointerIsNotByteSized ∷
    ExistingListValueIsIncompatibleWithExpectedType ∷ ExistingPointerIsNotAList ∷
    ExpectedAPointerListButGotAListOfDataOnlyStructs ∷
    ExpectedAPrimitiveListButGotAListOfPointerOnlyStructs ∷
    FoundBitListWhereStructListWasExpected ∷ FoundStructListWhereBitListWasExpected ∷
    InlineCompositeListsElementsOverrunItsWordCount ∷
    InlineCompositeListsOfNonStructTypeAreNotSupported ∷ InvalidSegmentId 0 ∷
    MalformedDoubleFarPointer ∷ MessageContainsListPointerOfNonBytesWhereDataWasExpected ∷
    MessageContainsListPointerOfNonBytesWhereTextWasExpected ∷
    MessageContainsListWithIncompatibleElementType ∷
    MessageContainsNonCapabilityPointerWhereCapabilityPointerWasExpected ∷
    MessageContainsNonListPointerWhereDataWasExpected ∷
    MessageContainsNonListPointerWhereListPointerWasExpected ∷
    MessageContainsNonListPointerWhereTextWasExpected ∷
    MessageContainsNonStructPointerWhereStructPointerWasExpected ∷
    MessageContainsNullCapabilityPointer ∷ MessageContainsOutOfBoundsPointer ∷
    MessageContainsTextThatIsNotNULTerminated ∷ MessageIsTooDeeplyNested ∷
    MessageIsTooDeeplyNestedOrContainsCycles ∷ MessageTooLarge 0 ∷ NestingLimitExceeded ∷
    NoSuchPlace ∷ ReadLimitExceeded ∷ TextBlobMissingNULTerminator ∷ TriedToReadFromNullArena ∷
    UnexpectedFarPointer ∷ UnknownPointerType ∷ []

kind_at : (d k : ErrorKind) → name_of (slice_index_or kinds (error_number k - 32) d) ≡ name_of k
kind_at d AllocationFailed = refl
kind_at d CannotCreateACanonicalMessageWithACapability = refl
kind_at d CantHandleNonStructInlineComposite = refl
kind_at d ExistingListPointerIsNotByteSized = refl
kind_at d ExistingListValueIsIncompatibleWithExpectedType = refl
kind_at d ExistingPointerIsNotAList = refl
kind_at d ExpectedAPointerListButGotAListOfDataOnlyStructs = refl
kind_at d ExpectedAPrimitiveListButGotAListOfPointerOnlyStructs = refl
kind_at d FoundBitListWhereStructListWasExpected = refl
kind_at d FoundStructListWhereBitListWasExpected = refl
kind_at d InlineCompositeListsElementsOverrunItsWordCount = refl
kind_at d InlineCompositeListsOfNonStructTypeAreNotSupported = refl
kind_at d (InvalidSegmentId x) = refl
kind_at d MalformedDoubleFarPointer = refl
kind_at d MessageContainsListPointerOfNonBytesWhereDataWasExpected = refl
kind_at d MessageContainsListPointerOfNonBytesWhereTextWasExpected = refl
kind_at d MessageContainsListWithIncompatibleElementType = refl
kind_at d MessageContainsNonCapabilityPointerWhereCapabilityPointerWasExpected = refl
kind_at d MessageContainsNonListPointerWhereDataWasExpected = refl
kind_at d MessageContainsNonListPointerWhereListPointerWasExpected = refl
kind_at d MessageContainsNonListPointerWhereTextWasExpected = refl
kind_at d MessageContainsNonStructPointerWhereStructPointerWasExpected = refl
kind_at d MessageContainsNullCapabilityPointer = refl
kind_at d MessageContainsOutOfBoundsPointer = refl
kind_at d MessageContainsTextThatIsNotNULTerminated = refl
kind_at d MessageIsTooDeeplyNested = refl
kind_at d MessageIsTooDeeplyNestedOrContainsCycles = refl
kind_at d (MessageTooLarge x) = refl
kind_at d NestingLimitExceeded = refl
kind_at d NoSuchPlace = refl
kind_at d ReadLimitExceeded = refl
kind_at d TextBlobMissingNULTerminator = refl
kind_at d TriedToReadFromNullArena = refl
kind_at d UnexpectedFarPointer = refl
kind_at d UnknownPointerType = refl

frame_error_below : (e : FrameError) → frame_error_number e < 32
frame_error_below NoSegments = omega arith
frame_error_below (TooManySegments x) = omega arith
frame_error_below (MessageTooLong x) = omega arith
frame_error_below Truncated = omega arith
frame_error_below ReadFailed = omega arith
frame_error_below WriteFailed = omega arith
frame_error_below NoMemory = omega arith

-- a refusal for what a message means isn't one for lack of room
pub error_number_above : (k : ErrorKind) → 32 ≤ error_number k
error_number_above AllocationFailed = omega arith
error_number_above CannotCreateACanonicalMessageWithACapability = omega arith
error_number_above CantHandleNonStructInlineComposite = omega arith
error_number_above ExistingListPointerIsNotByteSized = omega arith
error_number_above ExistingListValueIsIncompatibleWithExpectedType = omega arith
error_number_above ExistingPointerIsNotAList = omega arith
error_number_above ExpectedAPointerListButGotAListOfDataOnlyStructs = omega arith
error_number_above ExpectedAPrimitiveListButGotAListOfPointerOnlyStructs = omega arith
error_number_above FoundBitListWhereStructListWasExpected = omega arith
error_number_above FoundStructListWhereBitListWasExpected = omega arith
error_number_above InlineCompositeListsElementsOverrunItsWordCount = omega arith
error_number_above InlineCompositeListsOfNonStructTypeAreNotSupported = omega arith
error_number_above (InvalidSegmentId x) = omega arith
error_number_above MalformedDoubleFarPointer = omega arith
error_number_above MessageContainsListPointerOfNonBytesWhereDataWasExpected = omega arith
error_number_above MessageContainsListPointerOfNonBytesWhereTextWasExpected = omega arith
error_number_above MessageContainsListWithIncompatibleElementType = omega arith
error_number_above MessageContainsNonCapabilityPointerWhereCapabilityPointerWasExpected = omega arith
error_number_above MessageContainsNonListPointerWhereDataWasExpected = omega arith
error_number_above MessageContainsNonListPointerWhereListPointerWasExpected = omega arith
error_number_above MessageContainsNonListPointerWhereTextWasExpected = omega arith
error_number_above MessageContainsNonStructPointerWhereStructPointerWasExpected = omega arith
error_number_above MessageContainsNullCapabilityPointer = omega arith
error_number_above MessageContainsOutOfBoundsPointer = omega arith
error_number_above MessageContainsTextThatIsNotNULTerminated = omega arith
error_number_above MessageIsTooDeeplyNested = omega arith
error_number_above MessageIsTooDeeplyNestedOrContainsCycles = omega arith
error_number_above (MessageTooLarge x) = omega arith
error_number_above NestingLimitExceeded = omega arith
error_number_above NoSuchPlace = omega arith
error_number_above ReadLimitExceeded = omega arith
error_number_above TextBlobMissingNULTerminator = omega arith
error_number_above TriedToReadFromNullArena = omega arith
error_number_above UnexpectedFarPointer = omega arith
error_number_above UnknownPointerType = omega arith

kind_named : (n : ℕ) (d : ErrorKind) (r : Refusal) →
    32 ≤ n → answer_number r ≡ n → name_of (slice_index_or kinds (n - 32) d) ≡ answer_name r
kind_named n d (NoRoom size) low is = absurd (omega arith)
kind_named n d NoMessage low is = absurd (omega arith)
kind_named n d SegmentIsNotWholeWords low is = absurd (omega arith)
kind_named n d (Frame e) low is = absurd (omega (arith, frame_error_below e))
kind_named n d (Layout k) low is =
    subst (λ m. name_of (slice_index_or kinds (m - 32) d) ≡ name_of k) is (kind_at d k)

-- the refusal for what a message means, by its number
pub kind_found : (n : ℕ) (d : ErrorKind) → 32 ≤ n → n ≤ 66 →
    (error_number (slice_index_or kinds (n - 32) d) ≡ n)
    × ((r : Refusal) → answer_number r ≡ n → name_of (slice_index_or kinds (n - 32) d) ≡ answer_name r)
kind_found n d low high = (
  omega (arith, numbered_at error_number 32 kinds (n - 32) d all (omega arith)),
  λ r is. kind_named n d r low is,
)
  where
    all : AreNumbered error_number 32 kinds
    all = (
      refl,
      (
        refl,
        (
          refl,
          (
            refl,
            (
              refl,
              (
                refl,
                (
                  refl,
                  (
                    refl,
                    (
                      refl,
                      (
                        refl,
                        (
                          refl,
                          (
                            refl,
                            (
                              refl,
                              (
                                refl,
                                (
                                  refl,
                                  (
                                    refl,
                                    (
                                      refl,
                                      (
                                        refl,
                                        (
                                          refl,
                                          (
                                            refl,
                                            (
                                              refl,
                                              (
                                                refl,
                                                (
                                                  refl,
                                                  (
                                                    refl,
                                                    (refl, (refl, (refl, (refl, (refl, (refl, (refl, (refl, (refl, (refl, (refl, tt))))))))))),
                                                  ),
                                                ),
                                              ),
                                            ),
                                          ),
                                        ),
                                      ),
                                    ),
                                  ),
                                ),
                              ),
                            ),
                          ),
                        ),
                      ),
                    ),
                  ),
                ),
              ),
            ),
          ),
        ),
      ),
    )

abbrev reasons : List CanonicalFaultReason
reasons =
    SegmentCount ∷ NoPointer ∷ FarPointer ∷ Capability ∷ UnknownPointer ∷ EmptyStructPlace ∷
    ObjectPlace ∷ Padding ∷ DataSection ∷ PointerSection ∷ ElementWords ∷ ElementData ∷
    ElementPointers ∷ WordsBehind ∷ []

reason_at : (d r : CanonicalFaultReason) →
    fault_reason_text (slice_index_or reasons (reason_number r - 1) d) ≡ fault_reason_text r
reason_at d SegmentCount = refl
reason_at d NoPointer = refl
reason_at d FarPointer = refl
reason_at d Capability = refl
reason_at d UnknownPointer = refl
reason_at d EmptyStructPlace = refl
reason_at d ObjectPlace = refl
reason_at d Padding = refl
reason_at d DataSection = refl
reason_at d PointerSection = refl
reason_at d ElementWords = refl
reason_at d ElementData = refl
reason_at d ElementPointers = refl
reason_at d WordsBehind = refl

-- the text of a reason, by its number
pub reason_found : (n : ℕ) (d : CanonicalFaultReason) → 1 ≤ n → n ≤ 14 →
    IsTextOf reason_number fault_reason_text n (fault_reason_text (slice_index_or reasons (n - 1) d))
reason_found n d low high = (
  λ r is. subst (λ m. fault_reason_text (slice_index_or reasons (m - 1) d) ≡ fault_reason_text r) is (reason_at d r),
  λ none. absurd (none (slice_index_or reasons (n - 1) d)
      (omega (arith, numbered_at reason_number 1 reasons (n - 1) d all (omega arith)))),
)
  where
    all : AreNumbered reason_number 1 reasons
    all = (
      refl,
      (
        refl,
        (
          refl,
          (
            refl,
            (
              refl,
              (
                refl,
                (
                  refl,
                  (
                    refl,
                    (
                      refl,
                      (
                        refl,
                        (
                          refl,
                          (
                            refl,
                            (refl, (refl, tt)),
                          ),
                        ),
                      ),
                    ),
                  ),
                ),
              ),
            ),
          ),
        ),
      ),
    )
