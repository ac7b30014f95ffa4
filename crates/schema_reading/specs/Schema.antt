-- What the fields are in a value.
use Rattle.std.specs.Prelude.{ℕ, List, bit_xor, ◌∷◌, []}
use Rattle.capnp_format.specs.Tree.{Tree}
use Rattle.capnp_readers.specs.Values.{list_numbers, text_bytes}
use Rattle.typed_reading.specs.Values.{bits_in, child, data_or, text_or}

-- Field.name
abbrev pub field_name : Tree → List ℕ
field_name t = text_bytes (child 0 t)

-- Field.codeOrder
abbrev pub field_code_order : Tree → ℕ
field_code_order t = bits_in 0 16 t

-- Field.annotations
abbrev pub field_annotations : Tree → Tree
field_annotations t = child 1 t

-- Field.discriminantValue
abbrev pub field_discriminant_value : Tree → ℕ
field_discriminant_value t = bit_xor (bits_in 16 16 t) 65535

-- Which member of Field is set.
abbrev pub field_tag : Tree → ℕ
field_tag t = bits_in 64 16 t

-- Node.id
abbrev pub node_id : Tree → ℕ
node_id t = bits_in 0 64 t

-- Node.displayName
abbrev pub node_display_name : Tree → List ℕ
node_display_name t = text_bytes (child 0 t)

-- Node.displayNamePrefixLength
abbrev pub node_display_name_prefix_length : Tree → ℕ
node_display_name_prefix_length t = bits_in 64 32 t

-- Node.scopeId
abbrev pub node_scope_id : Tree → ℕ
node_scope_id t = bits_in 128 64 t

-- Node.nestedNodes
abbrev pub node_nested_nodes : Tree → Tree
node_nested_nodes t = child 1 t

-- Node.annotations
abbrev pub node_annotations : Tree → Tree
node_annotations t = child 2 t

-- Node.parameters
abbrev pub node_parameters : Tree → Tree
node_parameters t = child 5 t

-- Node.isGeneric
abbrev pub node_is_generic : Tree → ℕ
node_is_generic t = bits_in 288 1 t

-- Which member of Node is set.
abbrev pub node_tag : Tree → ℕ
node_tag t = bits_in 96 16 t

-- Node.struct.dataWordCount
abbrev pub node_struct_data_word_count : Tree → ℕ
node_struct_data_word_count t = bits_in 112 16 t

-- Node.struct.pointerCount
abbrev pub node_struct_pointer_count : Tree → ℕ
node_struct_pointer_count t = bits_in 192 16 t

-- Node.struct.preferredListEncoding
abbrev pub node_struct_preferred_list_encoding : Tree → ℕ
node_struct_preferred_list_encoding t = bits_in 208 16 t

-- Node.struct.isGroup
abbrev pub node_struct_is_group : Tree → ℕ
node_struct_is_group t = bits_in 224 1 t

-- Node.struct.discriminantCount
abbrev pub node_struct_discriminant_count : Tree → ℕ
node_struct_discriminant_count t = bits_in 240 16 t

-- Node.struct.discriminantOffset
abbrev pub node_struct_discriminant_offset : Tree → ℕ
node_struct_discriminant_offset t = bits_in 256 32 t

-- Node.struct.fields
abbrev pub node_struct_fields : Tree → Tree
node_struct_fields t = child 3 t

-- Enumerant.name
abbrev pub enumerant_name : Tree → List ℕ
enumerant_name t = text_bytes (child 0 t)

-- Enumerant.codeOrder
abbrev pub enumerant_code_order : Tree → ℕ
enumerant_code_order t = bits_in 0 16 t

-- Enumerant.annotations
abbrev pub enumerant_annotations : Tree → Tree
enumerant_annotations t = child 1 t

-- Node.enum.enumerants
abbrev pub node_enum_enumerants : Tree → Tree
node_enum_enumerants t = child 3 t

-- Method.name
abbrev pub method_name : Tree → List ℕ
method_name t = text_bytes (child 0 t)

-- Method.codeOrder
abbrev pub method_code_order : Tree → ℕ
method_code_order t = bits_in 0 16 t

-- Method.paramStructType
abbrev pub method_param_struct_type : Tree → ℕ
method_param_struct_type t = bits_in 64 64 t

-- Method.resultStructType
abbrev pub method_result_struct_type : Tree → ℕ
method_result_struct_type t = bits_in 128 64 t

-- Method.annotations
abbrev pub method_annotations : Tree → Tree
method_annotations t = child 1 t

-- Method.paramBrand
abbrev pub method_param_brand : Tree → Tree
method_param_brand t = child 2 t

-- Method.resultBrand
abbrev pub method_result_brand : Tree → Tree
method_result_brand t = child 3 t

-- Method.implicitParameters
abbrev pub method_implicit_parameters : Tree → Tree
method_implicit_parameters t = child 4 t

-- Superclass.id
abbrev pub superclass_id : Tree → ℕ
superclass_id t = bits_in 0 64 t

-- Superclass.brand
abbrev pub superclass_brand : Tree → Tree
superclass_brand t = child 0 t

-- Node.interface.methods
abbrev pub node_interface_methods : Tree → Tree
node_interface_methods t = child 3 t

-- Node.interface.superclasses
abbrev pub node_interface_superclasses : Tree → Tree
node_interface_superclasses t = child 4 t

-- Which member of Type is set.
abbrev pub type_tag : Tree → ℕ
type_tag t = bits_in 0 16 t

-- Value.bool
abbrev pub value_bool : Tree → ℕ
value_bool t = bits_in 16 1 t

-- Value.int8
abbrev pub value_int8 : Tree → ℕ
value_int8 t = bits_in 16 8 t

-- Value.int16
abbrev pub value_int16 : Tree → ℕ
value_int16 t = bits_in 16 16 t

-- Value.int32
abbrev pub value_int32 : Tree → ℕ
value_int32 t = bits_in 32 32 t

-- Value.int64
abbrev pub value_int64 : Tree → ℕ
value_int64 t = bits_in 64 64 t

-- Value.uint8
abbrev pub value_uint8 : Tree → ℕ
value_uint8 t = bits_in 16 8 t

-- Value.uint16
abbrev pub value_uint16 : Tree → ℕ
value_uint16 t = bits_in 16 16 t

-- Value.uint32
abbrev pub value_uint32 : Tree → ℕ
value_uint32 t = bits_in 32 32 t

-- Value.uint64
abbrev pub value_uint64 : Tree → ℕ
value_uint64 t = bits_in 64 64 t

-- Value.float32
abbrev pub value_float32 : Tree → ℕ
value_float32 t = bits_in 32 32 t

-- Value.float64
abbrev pub value_float64 : Tree → ℕ
value_float64 t = bits_in 64 64 t

-- Value.text
abbrev pub value_text : Tree → List ℕ
value_text t = text_bytes (child 0 t)

-- Value.data
abbrev pub value_data : Tree → List ℕ
value_data t = list_numbers (child 0 t)

-- Value.list
abbrev pub value_list : Tree → Tree
value_list t = child 0 t

-- Value.enum
abbrev pub value_enum : Tree → ℕ
value_enum t = bits_in 16 16 t

-- Value.struct
abbrev pub value_struct : Tree → Tree
value_struct t = child 0 t

-- Value.anyPointer
abbrev pub value_any_pointer : Tree → Tree
value_any_pointer t = child 0 t

-- Which member of Value is set.
abbrev pub value_tag : Tree → ℕ
value_tag t = bits_in 0 16 t

-- Node.const.type
abbrev pub node_const_type : Tree → Tree
node_const_type t = child 3 t

-- Node.const.value
abbrev pub node_const_value : Tree → Tree
node_const_value t = child 4 t

-- Node.annotation.type
abbrev pub node_annotation_type : Tree → Tree
node_annotation_type t = child 3 t

-- Node.annotation.targetsFile
abbrev pub node_annotation_targets_file : Tree → ℕ
node_annotation_targets_file t = bits_in 112 1 t

-- Node.annotation.targetsConst
abbrev pub node_annotation_targets_const : Tree → ℕ
node_annotation_targets_const t = bits_in 113 1 t

-- Node.annotation.targetsEnum
abbrev pub node_annotation_targets_enum : Tree → ℕ
node_annotation_targets_enum t = bits_in 114 1 t

-- Node.annotation.targetsEnumerant
abbrev pub node_annotation_targets_enumerant : Tree → ℕ
node_annotation_targets_enumerant t = bits_in 115 1 t

-- Node.annotation.targetsStruct
abbrev pub node_annotation_targets_struct : Tree → ℕ
node_annotation_targets_struct t = bits_in 116 1 t

-- Node.annotation.targetsField
abbrev pub node_annotation_targets_field : Tree → ℕ
node_annotation_targets_field t = bits_in 117 1 t

-- Node.annotation.targetsUnion
abbrev pub node_annotation_targets_union : Tree → ℕ
node_annotation_targets_union t = bits_in 118 1 t

-- Node.annotation.targetsGroup
abbrev pub node_annotation_targets_group : Tree → ℕ
node_annotation_targets_group t = bits_in 119 1 t

-- Node.annotation.targetsInterface
abbrev pub node_annotation_targets_interface : Tree → ℕ
node_annotation_targets_interface t = bits_in 120 1 t

-- Node.annotation.targetsMethod
abbrev pub node_annotation_targets_method : Tree → ℕ
node_annotation_targets_method t = bits_in 121 1 t

-- Node.annotation.targetsParam
abbrev pub node_annotation_targets_param : Tree → ℕ
node_annotation_targets_param t = bits_in 122 1 t

-- Node.annotation.targetsAnnotation
abbrev pub node_annotation_targets_annotation : Tree → ℕ
node_annotation_targets_annotation t = bits_in 123 1 t

-- Node.NestedNode.name
abbrev pub node_nested_node_name : Tree → List ℕ
node_nested_node_name t = text_bytes (child 0 t)

-- Node.NestedNode.id
abbrev pub node_nested_node_id : Tree → ℕ
node_nested_node_id t = bits_in 0 64 t

-- Annotation.id
abbrev pub annotation_id : Tree → ℕ
annotation_id t = bits_in 0 64 t

-- Annotation.value
abbrev pub annotation_value : Tree → Tree
annotation_value t = child 0 t

-- Annotation.brand
abbrev pub annotation_brand : Tree → Tree
annotation_brand t = child 1 t

-- Node.Parameter.name
abbrev pub node_parameter_name : Tree → List ℕ
node_parameter_name t = text_bytes (child 0 t)

-- Brand.scopes
abbrev pub brand_scopes : Tree → Tree
brand_scopes t = child 0 t

-- Brand.Scope.scopeId
abbrev pub brand_scope_scope_id : Tree → ℕ
brand_scope_scope_id t = bits_in 0 64 t

-- Brand.Scope.bind
abbrev pub brand_scope_bind : Tree → Tree
brand_scope_bind t = child 0 t

-- Which member of Brand.Scope is set.
abbrev pub brand_scope_tag : Tree → ℕ
brand_scope_tag t = bits_in 64 16 t

-- Brand.Binding.type
abbrev pub brand_binding_type : Tree → Tree
brand_binding_type t = child 0 t

-- Which member of Brand.Binding is set.
abbrev pub brand_binding_tag : Tree → ℕ
brand_binding_tag t = bits_in 0 16 t

-- Type.list.elementType
abbrev pub type_list_element_type : Tree → Tree
type_list_element_type t = child 0 t

-- Type.enum.typeId
abbrev pub type_enum_type_id : Tree → ℕ
type_enum_type_id t = bits_in 64 64 t

-- Type.enum.brand
abbrev pub type_enum_brand : Tree → Tree
type_enum_brand t = child 0 t

-- Type.struct.typeId
abbrev pub type_struct_type_id : Tree → ℕ
type_struct_type_id t = bits_in 64 64 t

-- Type.struct.brand
abbrev pub type_struct_brand : Tree → Tree
type_struct_brand t = child 0 t

-- Type.interface.typeId
abbrev pub type_interface_type_id : Tree → ℕ
type_interface_type_id t = bits_in 64 64 t

-- Type.interface.brand
abbrev pub type_interface_brand : Tree → Tree
type_interface_brand t = child 0 t

-- Which member of Type.anyPointer.unconstrained is set.
abbrev pub type_any_pointer_unconstrained_tag : Tree → ℕ
type_any_pointer_unconstrained_tag t = bits_in 80 16 t

-- Type.anyPointer.parameter.scopeId
abbrev pub type_any_pointer_parameter_scope_id : Tree → ℕ
type_any_pointer_parameter_scope_id t = bits_in 128 64 t

-- Type.anyPointer.parameter.parameterIndex
abbrev pub type_any_pointer_parameter_parameter_index : Tree → ℕ
type_any_pointer_parameter_parameter_index t = bits_in 80 16 t

-- Type.anyPointer.implicitMethodParameter.parameterIndex
abbrev pub type_any_pointer_implicit_method_parameter_parameter_index : Tree → ℕ
type_any_pointer_implicit_method_parameter_parameter_index t = bits_in 80 16 t

-- Which member of Type.anyPointer is set.
abbrev pub type_any_pointer_tag : Tree → ℕ
type_any_pointer_tag t = bits_in 64 16 t

-- Field.slot.offset
abbrev pub field_slot_offset : Tree → ℕ
field_slot_offset t = bits_in 32 32 t

-- Field.slot.type
abbrev pub field_slot_type : Tree → Tree
field_slot_type t = child 2 t

-- Field.slot.defaultValue
abbrev pub field_slot_default_value : Tree → Tree
field_slot_default_value t = child 3 t

-- Field.slot.hadExplicitDefault
abbrev pub field_slot_had_explicit_default : Tree → ℕ
field_slot_had_explicit_default t = bits_in 128 1 t

-- Field.group.typeId
abbrev pub field_group_type_id : Tree → ℕ
field_group_type_id t = bits_in 128 64 t

-- Field.ordinal.explicit
abbrev pub field_ordinal_explicit : Tree → ℕ
field_ordinal_explicit t = bits_in 96 16 t

-- Which member of Field.ordinal is set.
abbrev pub field_ordinal_tag : Tree → ℕ
field_ordinal_tag t = bits_in 80 16 t

-- Node.SourceInfo.Member.docComment
abbrev pub node_source_info_member_doc_comment : Tree → List ℕ
node_source_info_member_doc_comment t = text_bytes (child 0 t)

-- Node.SourceInfo.id
abbrev pub node_source_info_id : Tree → ℕ
node_source_info_id t = bits_in 0 64 t

-- Node.SourceInfo.docComment
abbrev pub node_source_info_doc_comment : Tree → List ℕ
node_source_info_doc_comment t = text_bytes (child 0 t)

-- Node.SourceInfo.members
abbrev pub node_source_info_members : Tree → Tree
node_source_info_members t = child 1 t

-- CapnpVersion.major
abbrev pub capnp_version_major : Tree → ℕ
capnp_version_major t = bits_in 0 16 t

-- CapnpVersion.minor
abbrev pub capnp_version_minor : Tree → ℕ
capnp_version_minor t = bits_in 16 8 t

-- CapnpVersion.micro
abbrev pub capnp_version_micro : Tree → ℕ
capnp_version_micro t = bits_in 24 8 t

-- CodeGeneratorRequest.RequestedFile.id
abbrev pub code_generator_request_requested_file_id : Tree → ℕ
code_generator_request_requested_file_id t = bits_in 0 64 t

-- CodeGeneratorRequest.RequestedFile.filename
abbrev pub code_generator_request_requested_file_filename : Tree → List ℕ
code_generator_request_requested_file_filename t = text_bytes (child 0 t)

-- CodeGeneratorRequest.RequestedFile.imports
abbrev pub code_generator_request_requested_file_imports : Tree → Tree
code_generator_request_requested_file_imports t = child 1 t

-- CodeGeneratorRequest.nodes
abbrev pub code_generator_request_nodes : Tree → Tree
code_generator_request_nodes t = child 0 t

-- CodeGeneratorRequest.requestedFiles
abbrev pub code_generator_request_requested_files : Tree → Tree
code_generator_request_requested_files t = child 1 t

-- CodeGeneratorRequest.capnpVersion
abbrev pub code_generator_request_capnp_version : Tree → Tree
code_generator_request_capnp_version t = child 2 t

-- CodeGeneratorRequest.sourceInfo
abbrev pub code_generator_request_source_info : Tree → Tree
code_generator_request_source_info t = child 3 t

-- CodeGeneratorRequest.RequestedFile.Import.id
abbrev pub code_generator_request_requested_file_import_id : Tree → ℕ
code_generator_request_requested_file_import_id t = bits_in 0 64 t

-- CodeGeneratorRequest.RequestedFile.Import.name
abbrev pub code_generator_request_requested_file_import_name : Tree → List ℕ
code_generator_request_requested_file_import_name t = text_bytes (child 0 t)
