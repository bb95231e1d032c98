mod Strides
